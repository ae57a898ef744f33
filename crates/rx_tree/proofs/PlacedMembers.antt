-- Members of a list in which items were placed by their paths.
use Rattle.std.proofs.Common.{◌≡◌, ◌∙◌, ℕ, ◌⊎◌, inl, inr, List, [], ◌∷◌, Ordering, Less, Equal, Greater, nat_cmp, refl, subst}
use Rattle.std.specs.Ordering.{match_ordering}
use Rattle.std.specs.Cmp.Lexicographic.{slice_cmp}
use Rattle.rx_base.proofs.Members.{Among}
use Rattle.rx_world.specs.Files.{all_placed_by, placed_by}
use Rattle.rx_tree.proofs.NameOrder.{is_equal}

-- ---- what is there was placed, or was there

module _ {T : Type 0} (path : T → List ℕ) where
  from_case : (o : Ordering) (new item q : T) (items rest : List T) → (Among q rest → (new ≡ q) ⊎ Among q items) → Among q (match_ordering o (new ∷ item ∷ items) (new ∷ items) (item ∷ rest))
      → (new ≡ q) ⊎ Among q (item ∷ items)
  from_case Less new item q items rest h a = a
  from_case Equal new item q items rest h (inl e) = inl e
  from_case Equal new item q items rest h (inr a) = inr (inr a)
  from_case Greater new item q items rest h (inl e) = inr (inl e)
  from_case Greater new item q items rest h (inr a) = elim (h a) [ inl e ↦ inl e | inr b ↦ inr (inr b) ]

  pub placed-from : (new : T) (items : List T) (q : T) → Among q (placed_by path new items) → (new ≡ q) ⊎ Among q items
  placed-from new [] q a = a
  placed-from new (item ∷ items) q a = from_case (slice_cmp nat_cmp (path new) (path item)) new item q items (placed_by path new items) (placed-from new items q) a

  pub all_placed-from : (news items : List T) (q : T) → Among q (all_placed_by path news items) → Among q news ⊎ Among q items
  all_placed-from [] items q a = inr a
  all_placed-from (new ∷ news) items q a =
      elim (all_placed-from news (placed_by path new items) q a) [
        | inl b ↦ inl (inr b)
        | inr b ↦ elim (placed-from new items q b) [ inl e ↦ inl (inl e) | inr c ↦ inr c ]
      ]

  new_case : (o : Ordering) (new item : T) (items rest : List T) → Among new rest → Among new (match_ordering o (new ∷ item ∷ items) (new ∷ items) (item ∷ rest))
  new_case Less new item items rest a = inl refl
  new_case Equal new item items rest a = inl refl
  new_case Greater new item items rest a = inr a

  placed-new : (new : T) (items : List T) → Among new (placed_by path new items)
  placed-new new [] = inl refl
  placed-new new (item ∷ items) = new_case (slice_cmp nat_cmp (path new) (path item)) new item items (placed_by path new items) (placed-new new items)

  -- ---- where items of one path are the same, all are there

  module _ (P : T → Type 0) (one : (a b : T) → P a → P b → path a ≡ path b → a ≡ b) where
    old_case : (o : Ordering) (new item q : T) (items rest : List T) → slice_cmp nat_cmp (path new) (path item) ≡ o → P new → P item → (Among q items → Among q rest) → Among q (item ∷ items)
        → Among q (match_ordering o (new ∷ item ∷ items) (new ∷ items) (item ∷ rest))
    old_case Less new item q items rest e n i h a = inr a
    old_case Equal new item q items rest e n i h (inl is) = inl (one new item n i (is_equal (path new) (path item) e) ∙ is)
    old_case Equal new item q items rest e n i h (inr a) = inr a
    old_case Greater new item q items rest e n i h (inl is) = inl is
    old_case Greater new item q items rest e n i h (inr a) = inr (h a)

    placed-old : (new : T) (items : List T) (q : T) → P new → ((x : T) → Among x items → P x) → Among q items → Among q (placed_by path new items)
    placed-old new [] q n all a = absurd a
    placed-old new (item ∷ items) q n all a =
        old_case (slice_cmp nat_cmp (path new) (path item)) new item q items (placed_by path new items) refl n (all item (inl refl)) (placed-old new items q n (λ x b. all x (inr b))) a

    placed-all : (new : T) (items : List T) → P new → ((x : T) → Among x items → P x) → (x : T) → Among x (placed_by path new items) → P x
    placed-all new items n all x a = elim (placed-from new items x a) [ inl e ↦ subst P e n | inr b ↦ all x b ]

    pub all_placed-old : (news items : List T) (q : T) → ((x : T) → Among x news → P x) → ((x : T) → Among x items → P x) → Among q items → Among q (all_placed_by path news items)
    all_placed-old [] items q ns all a = a
    all_placed-old (new ∷ news) items q ns all a =
        all_placed-old news (placed_by path new items) q (λ x b. ns x (inr b)) (placed-all new items (ns new (inl refl)) all) (placed-old new items q (ns new (inl refl)) all a)

    pub all_placed-new : (news items : List T) (q : T) → ((x : T) → Among x news → P x) → ((x : T) → Among x items → P x) → Among q news → Among q (all_placed_by path news items)
    all_placed-new [] items q ns all a = absurd a
    all_placed-new (new ∷ news) items q ns all (inl e) =
        all_placed-old news (placed_by path new items) q (λ x b. ns x (inr b)) (placed-all new items (ns new (inl refl)) all) (subst (λ (x : T). Among x (placed_by path new items)) e (placed-new new items))
    all_placed-new (new ∷ news) items q ns all (inr a) =
        all_placed-new news (placed_by path new items) q (λ x b. ns x (inr b)) (placed-all new items (ns new (inl refl)) all) a
