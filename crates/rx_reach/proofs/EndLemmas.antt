-- The end of a scan: what was found, as lists.
use Rattle.std.proofs.Common.{◌≡◌, ◌↔◌, ℕ, ◌≤◌, inl, inr, false, List, [], ◌∷◌, length, ◌+◌, ◌⊎◌, Option, Some, None, refl, sym, ap, ◌∙◌, subst, arith}
use Rattle.std.specs.Prelude.{Contains, MatchOption}
use Rattle.std.proofs.lemmas.List.Elements.{All-contains}
use Rattle.std.proofs.lemmas.Map.Views.{All-after_first}
use Rattle.std.specs.declared.cmp.Ordering.{Ordering}
use Rattle.std.specs.declared.cmp.Ordering.TheVariants.{Less, Equal, Greater}
use Rattle.std.specs.Cmp.Lexicographic.{slice_cmp}
use Rattle.std.specs.Ordering.{is_lt, nat_cmp}
use Rattle.rx_base.specs.SortedPaths.{AreSorted}
use Rattle.rx_base.proofs.FrontOrder.{not_both, not_self}
use Rattle.rx_world.specs.declared.input_files.InputFile.{InputFile}
use Rattle.rx_reach.specs.declared.progress.Progress.{Progress}
use Rattle.rx_reach.specs.declared.reach.Reached.{Reached}
use Rattle.rx_reach.specs.declared.searches.Search.{Search}
use Rattle.rx_reach.specs.Explored.{IsExplored}
use Rattle.rx_reach.specs.FileTables.{paths_of}
use Rattle.rx_reach.specs.Opened.{IsOpened}
use Rattle.rx_reach.specs.Reach.{IsFileOf, IsHard, IsLeastPath, IsReach, IsReached, IsWhole, most_tree_files}
use Rattle.rx_reach.specs.Scenes.{Scene}
use Rattle.rx_reach.proofs.OpenedLemmas.{opened-reached}
use Rattle.rx_reach.proofs.ReachLemmas.{all-hard, all-left, all-read}
use Rattle.rx_reach.proofs.SetLemmas.{all-from}
use Rattle.rx_base.proofs.Members.{Contains-cons_cases, Contains-head, Contains-map, not_in_nothing}

not-less : (o : Ordering) → (o ≡ Less → ⊥) → is_lt o ≡ false
not-less Less h = absurd (h refl)
not-less Equal h = refl
not-less Greater h = refl

-- the first of a sorted list is the least
pub first-least : (old new : List (List ℕ)) (first : Option (List ℕ)) → AreSorted old → MatchOption first ((old ≡ []) × (new ≡ [])) (λ path. old ≡ path ∷ new) → IsLeastPath (Contains old) first
first-least old new None s e = λ path h. not_in_nothing path (subst (λ xs. Contains xs path) e.0 h)
first-least old new (Some path) s e = (subst (λ xs. Contains xs path) (sym e) (Contains-head path new), λ other h. above other (Contains-cons_cases path new other (subst (λ xs. Contains xs other) e h)))
  where
    above : (other : List ℕ) → (path ≡ other) ⊎ Contains new other → is_lt (slice_cmp nat_cmp other path) ≡ false
    above other (inl same) = not-less (slice_cmp nat_cmp other path) (λ lt. not_self path (subst (λ x. slice_cmp nat_cmp x path ≡ Less) (sym same) lt))
    above other (inr k) =
        let less = All-contains (λ q. slice_cmp nat_cmp path q ≡ Less) new other (All-after_first (slice_cmp nat_cmp) path new (subst AreSorted e s)) k in
        not-less (slice_cmp nat_cmp other path) (λ lt. not_both path other less lt)

least-same : (P Q : List ℕ → Type 0) (found : Option (List ℕ)) → ((path : List ℕ) → P path ↔ Q path) → IsLeastPath P found → IsLeastPath Q found
least-same P Q None iff l = λ path q. l path ((iff path).1 q)
least-same P Q (Some least) iff l = ((iff least).0 l.0, λ path q. l.1 path ((iff path).1 q))

-- nothing waited at the end where the files are no more than may be
too-many : (p : Progress) (reached : Reached) → reached.files ≡ p.read → length p.read ≡ most_tree_files + 1 → length reached.files ≤ most_tree_files → ⊥
too-many p reached fs n le =
    let here : length reached.files ≡ most_tree_files + 1 = ap (λ (xs : List InputFile). length xs) fs ∙ n in
    omega (arith, here, le)

pub reach-is : (scene : Scene) (search : Search) (p : Progress) (reached : Reached) → reached.files ≡ p.read → IsLeastPath (Contains p.hard) reached.hard → reached.left ≡ p.left → IsExplored scene search (most_tree_files + 1) p
    → IsReach most_tree_files scene search reached
reach-is scene search p reached fs least ls e = record {
  each = all-from (IsFileOf scene) reached.files (λ f h. e.0.files f (subst (λ (xs : List InputFile). Contains xs f) fs h));
  reaches = all-from (λ (f : InputFile). IsReached scene search f.path) reached.files (λ f h. e.0.reached f.path (inr (Contains-map (λ (x : InputFile). x.path) p.read f (subst (λ (xs : List InputFile). Contains xs f) fs h))));
  whole = λ le. elim e.1 [ inl w ↦ whole w | inr n ↦ absurd (too-many p reached fs n le) ];
}
  where
    whole : p.waiting ≡ [] → IsWhole scene search reached
    whole w = record {
      files = λ path. (
        λ h. (all-read scene search p w e.0 path).0 (subst (λ (xs : List InputFile). Contains (paths_of xs) path) fs h),
        λ r. subst (λ (xs : List InputFile). Contains (paths_of xs) path) (sym fs) ((all-read scene search p w e.0 path).1 r),
      );
      hard = least-same (Contains p.hard) (IsHard scene search) reached.hard (all-hard scene search p w e.0) least;
      left = λ path. (
        λ h. (all-left scene search p w e.0 path).0 (subst (λ xs. Contains xs path) ls h),
        λ l. subst (λ xs. Contains xs path) (sym ls) ((all-left scene search p w e.0 path).1 l),
      );
    }

pub opened-there : (scene : Scene) (search : Search) (p : Progress) (reached : Reached) → reached.files ≡ p.read → IsExplored scene search (most_tree_files + 1) p → length reached.files ≤ most_tree_files
    → (path : List ℕ) → IsOpened scene search path → Contains (paths_of reached.files) path
opened-there scene search p reached fs e le path o =
    elim e.1 [
      | inl w ↦ subst (λ (xs : List InputFile). Contains (paths_of xs) path) (sym fs) ((all-read scene search p w e.0 path).1 (opened-reached scene search path o))
      | inr n ↦ absurd (too-many p reached fs n le)
    ]
