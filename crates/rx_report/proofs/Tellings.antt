-- What a list of reporters was told: one note after the other, and to one reporter after the other.
use Rattle.std.proofs.Common.{◌≡◌, inl, inr, ℕ, List, [], ◌∷◌, ◌++◌, ◌+◌, Option, None, Some, refl, sym, ap, ◌∙◌, subst, length, drop, slice_index_or, append_assoc, append-nil, arith}
use Rattle.rx_report.specs.declared.notes.Note.{Note}
use Rattle.rx_report.specs.Told.{AreTold, HasSeen}

-- ---- one note, told to one after the other

pub drops : {B : Type 0} (seen : B → Option (List Note)) (told : List Note) (old new : List B) (b : B)
    → AreTold seen told old new → AreTold seen told (old ++ b ∷ []) new
drops seen told [] new b h = inl h
drops seen told (x ∷ old) new b (inl h) = inl (drops seen told old new b h)
drops seen told (x ∷ old) new b (inr h) = inr (h.0, h.1, h.2, h.3, drops seen told old h.1 b h.4)

pub keeps : {B : Type 0} (seen : B → Option (List Note)) (told : List Note) (old new : List B) (b c : B)
    → HasSeen (seen b) (seen c) told → AreTold seen told old new → AreTold seen told (old ++ b ∷ []) (new ++ c ∷ [])
keeps seen told [] new b c s h = inr (c, [], ap (λ l. l ++ c ∷ []) h, s, refl)
keeps seen told (x ∷ old) new b c s (inl h) = inl (keeps seen told old new b c s h)
keeps seen told (x ∷ old) new b c s (inr h) = inr (h.0, h.1 ++ c ∷ [], ap (λ l. l ++ c ∷ []) h.2, h.3, keeps seen told old h.1 b c s h.4)

-- So many wait before those that stayed; the others were told.
pub record IsTelling {B : Type 0} (seen : B → Option (List Note)) (told : List Note) (old now : List B) (count : ℕ) : Type 0 where
  pub done : List B
  pub waiting : List B
  pub stayed : List B
  pub all_are : old ≡ done ++ waiting
  pub now_are : now ≡ waiting ++ stayed
  pub are_told : AreTold seen told done stayed
  pub count_is : length waiting ≡ count

pub begins : {B : Type 0} (seen : B → Option (List Note)) (told : List Note) (old : List B) → IsTelling seen told old old (length old)
begins seen told old = record {
  done = [];
  waiting = old;
  stayed = [];
  all_are = refl;
  now_are = sym (append-nil old);
  are_told = refl;
  count_is = refl;
}

gone-from : {B : Type 0} (seen : B → Option (List Note)) (told : List Note) (old now rest done waiting stayed : List B) (b : B) (count : ℕ)
    → old ≡ done ++ waiting → now ≡ waiting ++ stayed → AreTold seen told done stayed → length waiting ≡ count + 1 → now ≡ b ∷ rest
    → IsTelling seen told old rest count
gone-from seen told old now rest done [] stayed b count all here are len first = absurd (omega (arith, len))
gone-from seen told old now rest done (x ∷ ws) stayed b count all here are len first = record {
  done = done ++ x ∷ [];
  waiting = ws;
  stayed = stayed;
  all_are = all ∙ sym (append_assoc done (x ∷ []) ws);
  now_are = ap (drop 1) (sym first ∙ here);
  are_told = drops seen told done stayed x are;
  count_is = omega (arith, len);
}

kept-from : {B : Type 0} (seen : B → Option (List Note)) (told : List Note) (old now rest done waiting stayed : List B) (b c : B) (count : ℕ)
    → old ≡ done ++ waiting → now ≡ waiting ++ stayed → AreTold seen told done stayed → length waiting ≡ count + 1 → now ≡ b ∷ rest
    → HasSeen (seen b) (seen c) told → IsTelling seen told old (rest ++ c ∷ []) count
kept-from seen told old now rest done [] stayed b c count all here are len first s = absurd (omega (arith, len))
kept-from seen told old now rest done (x ∷ ws) stayed b c count all here are len first s =
    let e : b ∷ rest ≡ x ∷ (ws ++ stayed) = sym first ∙ here in
    let b_is : b ≡ x = ap (λ l. slice_index_or l 0 b) e in record {
      done = done ++ x ∷ [];
      waiting = ws;
      stayed = stayed ++ c ∷ [];
      all_are = all ∙ sym (append_assoc done (x ∷ []) ws);
      now_are = ap (λ l. l ++ c ∷ []) (ap (drop 1) e) ∙ append_assoc ws stayed (c ∷ []);
      are_told = keeps seen told done stayed x c (subst (λ (y : _). HasSeen (seen y) (seen c) told) b_is s) are;
      count_is = omega (arith, len);
    }

-- the first that waits is gone
pub gone : {B : Type 0} (seen : B → Option (List Note)) (told : List Note) (old now rest : List B) (b : B) (count : ℕ)
    → IsTelling seen told old now (count + 1) → now ≡ b ∷ rest → IsTelling seen told old rest count
gone seen told old now rest b count t first = gone-from seen told old now rest t.done t.waiting t.stayed b count t.all_are t.now_are t.are_told t.count_is first

-- the first that waits was told, and stays
pub kept : {B : Type 0} (seen : B → Option (List Note)) (told : List Note) (old now rest : List B) (b c : B) (count : ℕ)
    → IsTelling seen told old now (count + 1) → now ≡ b ∷ rest → HasSeen (seen b) (seen c) told → IsTelling seen told old (rest ++ c ∷ []) count
kept seen told old now rest b c count t first s = kept-from seen told old now rest t.done t.waiting t.stayed b c count t.all_are t.now_are t.are_told t.count_is first s

-- none waits
ended-from : {B : Type 0} (seen : B → Option (List Note)) (told : List Note) (old now done waiting stayed : List B)
    → old ≡ done ++ waiting → now ≡ waiting ++ stayed → AreTold seen told done stayed → length waiting ≡ 0 → AreTold seen told old now
ended-from {B} seen told old now done [] stayed all here are len = subst (λ (l : List B × List B). AreTold seen told l.0 l.1) (λ i. (sym (all ∙ append-nil done) i, sym here i)) are
ended-from seen told old now done (x ∷ ws) stayed all here are len = absurd (omega (arith, len))

pub ended : {B : Type 0} (seen : B → Option (List Note)) (told : List Note) (old now : List B) → IsTelling seen told old now 0 → AreTold seen told old now
ended seen told old now t = ended-from seen told old now t.done t.waiting t.stayed t.all_are t.now_are t.are_told t.count_is

-- ---- notes, told one after the other

pub seen-then : (a b c : Option (List Note)) (first second : List Note) → HasSeen a b first → HasSeen b c second → HasSeen a c (first ++ second)
seen-then None b c first second h k = tt
seen-then (Some a) b c first second h k = let e : HasSeen (Some (a ++ first)) c second = subst (λ (o : Option (List Note)). HasSeen o c second) h k in e ∙ ap Some (append_assoc a first second)

pub seen-same : (a : Option (List Note)) → HasSeen a a []
seen-same None = tt
seen-same (Some a) = ap Some (sym (append-nil a))

pub nothing-told : {B : Type 0} (seen : B → Option (List Note)) (all : List B) → AreTold seen [] all all
nothing-told seen [] = refl
nothing-told seen (b ∷ bs) = inr (b, bs, refl, seen-same (seen b), nothing-told seen bs)

told-cons : {B : Type 0} (seen : B → Option (List Note)) (first second : List Note) (b : B) (bs mid new : List B)
    → ((ms ns : List B) → AreTold seen first bs ms → AreTold seen second ms ns → AreTold seen (first ++ second) bs ns)
    → (c : B) (rest : List B) → mid ≡ c ∷ rest → HasSeen (seen b) (seen c) first → AreTold seen first bs rest
    → AreTold seen second (c ∷ rest) new → AreTold seen (first ++ second) (b ∷ bs) new
told-cons seen first second b bs mid new more c rest is s are (inl k) = inl (more rest new are k)
told-cons seen first second b bs mid new more c rest is s are (inr k) = inr (k.0, k.1, k.2, seen-then (seen b) (seen c) (seen k.0) first second s k.3, more rest k.1 are k.4)

-- told these, and then those
pub told-then : {B : Type 0} (seen : B → Option (List Note)) (first second : List Note) (old mid new : List B)
    → AreTold seen first old mid → AreTold seen second mid new → AreTold seen (first ++ second) old new
told-then seen first second [] mid new h k = subst (λ (l : List _). AreTold seen second l new) h k
told-then seen first second (b ∷ bs) mid new (inl h) k = inl (told-then seen first second bs mid new h k)
told-then {B} seen first second (b ∷ bs) mid new (inr h) k =
    told-cons seen first second b bs mid new (λ ms ns. told-then seen first second bs ms ns) h.0 h.1 h.2 h.3 h.4 (subst (λ (l : List B). AreTold seen second l new) h.2 k)
