-- Each step keeps the rule of the queue.
use Rattle.std.proofs.Common.{◌≡◌, ◌≢◌, ◌⊎◌, inl, inr, ⊎_elim, ℕ, zero, suc, Bool, true, false, true≢false, List, [], ◌∷◌, ◌++◌, Option, None, Some, length, set, sym, refl, ap, ◌∙◌, subst, append_assoc, append-nil}
use mathlib.Core.Option.{some, some-injective, some-ne-none}
use lib.ListN.{get_elem?}
use Rattle.crossbeam_queue.specs.Fifo.{Pushes, Pops, Forks, Merges, Learns}
use Rattle.crossbeam_queue.proofs.Lists.{at_set}
use Rattle.rx_report.specs.declared.notes.Note.{Note}
use Rattle.rx_notes.specs.declared.relays.Part.{Part}
use Rattle.rx_notes.specs.Relay.{Fits, IsRest, Relayed, both, idle, note_in, notes_in, part, taking, with_got, with_more, with_sent, without_taking}

-- ---- lists

notes-snoc : (items : List (Option Note)) (x : Option Note) → notes_in (items ++ x ∷ []) ≡ notes_in items ++ note_in x
notes-snoc [] None = refl
notes-snoc [] (Some n) = refl
notes-snoc (None ∷ items) x = notes-snoc items x
notes-snoc (Some n ∷ items) x = ap (λ l. n ∷ l) (notes-snoc items x)

notes-cons : (items : List (Option Note)) (x : Option Note) → notes_in (x ∷ items) ≡ note_in x ++ notes_in items
notes-cons items None = refl
notes-cons items (Some n) = refl

-- the longer list has what the list has, and the last
at-snoc : {A : Type 0} (l : List A) (r u : A) (j : ℕ) → get_elem? (l ++ r ∷ []) j ≡ some u → (get_elem? l j ≡ some u) ⊎ ((j ≡ length l) × (r ≡ u))
at-snoc [] r u zero e = inr (refl, some-injective r u e)
at-snoc [] r u (suc j) e = absurd (some-ne-none u (sym e))
at-snoc (x ∷ xs) r u zero e = inl e
at-snoc (x ∷ xs) r u (suc j) e = ⊎_elim (λ h. inl h) (λ h. inr (ap suc h.0, h.1)) (at-snoc xs r u j e)

-- ---- each pass

abbrev All : (ℕ → Part → Type 0) → List Part → Type 0
All F views = (port : ℕ) (v : Part) → get_elem? views port ≡ some v → F port v

all-set : (F : ℕ → Part → Type 0) (views : List Part) (port : ℕ) (w : Part) → F port w → ((j : ℕ) (u : Part) → j ≢ port → get_elem? views j ≡ some u → F j u)
    → All F (set views port w)
all-set F views port w mine others j u e = ⊎_elim (λ (x : (j ≡ port) × (w ≡ u)). subst (λ (y : ℕ × Part). F y.0 y.1) (λ i. (sym x.0 i, x.1 i)) mine)
    (λ (x : (j ≢ port) × (get_elem? views j ≡ some u)). others j u x.0 x.1) (at_set views port j w u e)

-- what the two have that came of a pass stands at the two places, and else nothing changed
all-fork : (F : ℕ → Part → Type 0) (views : List Part) (port : ℕ) (left right : Part)
    → F port left → F (length (set views port left)) right → ((j : ℕ) (u : Part) → j ≢ port → get_elem? views j ≡ some u → F j u)
    → All F (set views port left ++ right ∷ [])
all-fork F views port left right mine theirs others j u e =
    ⊎_elim (λ h. all-set F views port left mine others j u h)
    (λ (h : (j ≡ length (set views port left)) × (right ≡ u)). subst (λ (y : ℕ × Part). F y.0 y.1) (λ i. (sym h.0 i, h.1 i)) theirs)
    (at-snoc (set views port left) right u j e)

-- each but one, after a change of another
all-but : (F : ℕ → Part → Type 0) (views : List Part) (port other : ℕ) (w : Part) → F port w
    → ((j : ℕ) (u : Part) → j ≢ port → j ≢ other → get_elem? views j ≡ some u → F j u)
    → (j : ℕ) (u : Part) → j ≢ other → get_elem? (set views port w) j ≡ some u → F j u
all-but F views port other w mine others j u far e = ⊎_elim (λ (x : (j ≡ port) × (w ≡ u)). subst (λ (y : ℕ × Part). F y.0 y.1) (λ i. (sym x.0 i, x.1 i)) mine)
    (λ (x : (j ≢ port) × (get_elem? views j ≡ some u)). others j u x.0 far x.1) (at_set views port j w u e)

-- what doesn't hold gives anything
not-so : {P : Type 0} → false ≡ true → P
not-so e = absurd (true≢false (sym e))

-- ---- sending and taking

pub sends : (n port : ℕ) (v : Part) (x : Option Note) → v.sends ≡ true → Pushes Relayed n port v x (λ w. w ≡ with_sent v x)
sends n port v x may items views _ t at =
    let mine = t.each port v at in
    let sent = t.sent ++ note_in x in (
      with_sent v x,
      record {
        writer = t.writer;
        reader = t.reader;
        sent = sent;
        got = t.got;
        relayed = ap (λ l. l ++ note_in x) t.relayed ∙ (append_assoc t.got (notes_in items) (note_in x) ∙ ap (λ l. t.got ++ l) (sym (notes-snoc items x)));
        each = all-set (Fits t.writer t.reader sent t.got) views port (with_sent v x)
            ((λ _. ((mine.0 may).0, ap (λ l. l ++ note_in x) (mine.0 may).1)), mine.1)
            (λ j u other e. ((λ p. absurd (other (((t.each j u e).0 p).0 ∙ sym (mine.0 may).0))), (t.each j u e).1));
      },
      refl,
    )

pub takes : (port : ℕ) (v : Part) → v.takes ≡ true → Pops Relayed port v (λ x w. w ≡ with_got v x)
takes port v may x items views t at =
    let mine = t.each port v at in
    let got = t.got ++ note_in x in (
      with_got v x,
      record {
        writer = t.writer;
        reader = t.reader;
        sent = t.sent;
        got = got;
        relayed = t.relayed ∙ (ap (λ l. t.got ++ l) (notes-cons items x) ∙ sym (append_assoc t.got (note_in x) (notes_in items)));
        each = all-set (Fits t.writer t.reader t.sent got) views port (with_got v x)
            (mine.0, (λ _. ((mine.1 may).0, ap (λ l. l ++ note_in x) (mine.1 may).1)))
            (λ j u other e. ((t.each j u e).0, (λ p. absurd (other (((t.each j u e).1 p).0 ∙ sym (mine.1 may).0)))));
      },
      refl,
    )

pub rest : (port : ℕ) (v : Part) → Learns Relayed port v (IsRest v)
rest port v items views t at s g =
    let mine = t.each port v at in (mine.0 s).1 ∙ (t.relayed ∙ ap (λ l. l ++ notes_in items) (sym (mine.1 g).1))

-- ---- the first pass, and the right to take

first-at : (w u : Part) (port : ℕ) → get_elem? (w ∷ []) port ≡ some u → (port ≡ 0) × (w ≡ u)
first-at w u zero e = (refl, some-injective w u e)
first-at w u (suc port) e = absurd (some-ne-none u (sym e))

pub begins : Relayed [] (part true true [] [] ∷ [])
begins = record {
  writer = 0;
  reader = 0;
  sent = [];
  got = [];
  relayed = refl;
  each = λ port v e. let h = first-at (part true true [] []) v port e in subst (λ (y : ℕ × Part). Fits 0 0 [] [] y.0 y.1) (λ i. (sym h.0 i, h.1 i))
      ((λ k. (refl, refl)), (λ k. (refl, refl)));
}

pub forks-taking : (port : ℕ) (v : Part) → v.takes ≡ true → Forks Relayed port v (without_taking v) (taking v)
forks-taking port v may items views t at =
    let mine = t.each port v at in
    let far = length (set views port (without_taking v)) in record {
      writer = t.writer;
      reader = far;
      sent = t.sent;
      got = t.got;
      relayed = t.relayed;
      each = all-fork (Fits t.writer far t.sent t.got) views port (without_taking v) (taking v)
          (mine.0, (λ p. not-so p))
          ((λ p. not-so p), (λ p. (refl, (mine.1 may).1)))
          (λ j u apart e. let f = t.each j u e in (f.0, (λ p. absurd (apart ((f.1 p).0 ∙ sym (mine.1 may).0)))));
    }

pub merges : (port : ℕ) (v : Part) (other : ℕ) (w : Part) → w.takes ≡ true → w.sends ≡ false → Merges Relayed port v other w (both v w) idle
merges port v other w may none items views t at apart_w at_w =
    let mine = t.each port v at in
    let was : get_elem? views other ≡ some w = ⊎_elim (λ x. absurd (apart_w x.0)) (λ x. x.1) (at_set views port other (both v w) w at_w) in
    let theirs = t.each other w was in
    let F = Fits t.writer port t.sent t.got in
    let whole : F port (both v w) = (mine.0, (λ p. (refl, (theirs.1 may).1))) in
    record {
      writer = t.writer;
      reader = port;
      sent = t.sent;
      got = t.got;
      relayed = t.relayed;
      each = all-set F (set views port (both v w)) other idle
          ((λ p. not-so p), (λ p. not-so p))
          (λ j u far e. all-but F views port other (both v w) whole
          (λ i x apart away k. let f = t.each i x k in (f.0, (λ p. absurd (away ((f.1 p).0 ∙ sym (theirs.1 may).0))))) j u far e);
    }

-- ---- what passes know, step by step

pub sent-none : (v w : Part) → w ≡ with_sent v None → w ≡ v
sent-none v w is = is ∙ ap (λ l. part v.sends v.takes l v.got) (append-nil v.sent)

pub got-one : (v w u : Part) (x y : Option Note) → v ≡ w → u ≡ with_got v x → x ≡ y → u ≡ with_got w y
got-one v w u x y v_is u_is same = u_is ∙ (ap (λ (h : Part). with_got h x) v_is ∙ ap (λ z. with_got w z) same)

pub more-none : (v : Part) → v ≡ with_more v []
more-none v = ap (λ l. part v.sends v.takes v.sent l) (sym (append-nil v.got))

pub more-one : (v w u : Part) (more : List Note) (x : Option Note) → w ≡ with_more v more → u ≡ with_got w x → u ≡ with_more v (more ++ note_in x)
more-one v w u more x w_is u_is = u_is ∙ (ap (λ (h : Part). with_got h x) w_is ∙ ap (λ l. part v.sends v.takes v.sent l) (append_assoc v.got more (note_in x)))

-- what the reader took, and more, is what was sent, where nothing is left
pub all-sent : (v w u : Part) (sent told more : List Note) → v ≡ part true false sent [] → w ≡ part false true [] told → u ≡ both v w
    → u.sent ≡ u.got ++ more → told ++ more ≡ sent
all-sent v w u sent told more v_is w_is u_is rest_is =
    let e : u ≡ part true true sent told = u_is ∙ ap (λ (y : Part × Part). both y.0 y.1) (λ i. (v_is i, w_is i)) in
    sym (subst (λ (x : Part). x.sent ≡ x.got ++ more) e rest_is)
