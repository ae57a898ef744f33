-- What was seen over several answers of a source tree.
use Rattle.std.proofs.Common.{◌≡◌, ℕ, ◌≤◌, ◌⊎◌, inl, inr, Bool, true, false, cond, List, [], ◌∷◌, ◌++◌, refl, sym, ap, ◌∙◌, subst, arith}
use Rattle.std.proofs.lemmas.List.Elements.{All-append, All-cons, All-contains, All-nil, All-weaker, Contains-append_left, Contains-append_right}
use Rattle.std.proofs.lemmas.Map.Text.{is_eq-slice_cmp}
use Rattle.std.proofs.lemmas.Slice.Eq.{bytes_eq-Decides}
use Rattle.std.specs.Prelude.{All, None, Option, Some}
use Rattle.std.specs.BTreeMap.{BTreeMap, UpdatesBy, is_at}
use Rattle.std.specs.Cmp.Lexicographic.{slice_cmp}
use Rattle.std.specs.Option.{option_or}
use Rattle.std.specs.Ordering.{nat_cmp}
use Rattle.std.specs.Str.{bytes_eq}
use Rattle.rx_world.specs.declared.looks.ChangedInput.{ChangedInput}
use Rattle.rx_world.specs.declared.looks.Look.{Look}
use Rattle.rx_world.specs.declared.sources.Given.{Given}
use Rattle.rx_reach.specs.declared.faults.SightFault.{SightFault}
use Rattle.rx_reach.specs.declared.faults.SightFault.TheVariants.{InputChanged, NoMemory, SourceFault}
use Rattle.rx_reach.specs.Scenes.{AreRight, IsRight, Scene}
use Rattle.rx_reach.specs.Sights.{BeginsWith, Blames, HaveDiffered, IsAnswered, Notes, WasSeen, answer_of, first_at, first_seen, seen_at}

abbrev Sights : Type 0
Sights = List (List ℕ × Look)

-- ---- choices

or-none : (o : Option Look) → option_or o None ≡ o
or-none None = refl
or-none (Some look) = refl

or-assoc : (a b c : Option Look) → option_or (option_or a b) c ≡ option_or a (option_or b c)
or-assoc None b c = refl
or-assoc (Some look) b c = refl

or-some : (a b : Option Look) (look : Look) → a ≡ Some look → option_or a b ≡ Some look
or-some a b look e = ap (λ o. option_or o b) e

or-cases : (a b : Option Look) (look : Look) → option_or a b ≡ Some look → (a ≡ Some look) ⊎ (b ≡ Some look)
or-cases None b look e = inr e
or-cases (Some seen) b look e = inl e

-- ---- answers in order

first-append : (path : List ℕ) (xs ys : List Given) → first_at path (xs ++ ys) ≡ option_or (first_at path xs) (first_at path ys)
first-append path [] ys = refl
first-append path (x ∷ xs) ys = by (bytes_eq x.path path) (first-append path xs ys)
  where
    by : (b : Bool) → first_at path (xs ++ ys) ≡ option_or (first_at path xs) (first_at path ys) → cond b (Some x.look) (first_at path (xs ++ ys)) ≡ option_or (cond b (Some x.look) (first_at path xs)) (first_at path ys)
    by true rest = refl
    by false rest = rest

pub notes-none : (sights : Sights) → Notes sights sights []
notes-none sights = record { first = λ path. sym (or-none (seen_at sights path)); same = All-nil (λ answer. seen_at sights answer.path ≡ Some answer.look) }

-- what was seen stays
pub notes-keep : (old new : Sights) (answers : List Given) (path : List ℕ) (look : Look) → Notes old new answers → seen_at old path ≡ Some look → seen_at new path ≡ Some look
notes-keep old new answers path look n e = n.first path ∙ or-some (seen_at old path) (first_at path answers) look e

pub notes-join : (a b c : Sights) (xs ys : List Given) → Notes a b xs → Notes b c ys → Notes a c (xs ++ ys)
notes-join a b c xs ys n m = record {
  first = λ path. m.first path ∙ ap (λ o. option_or o (first_at path ys)) (n.first path) ∙ or-assoc (seen_at a path) (first_at path xs) (first_at path ys) ∙ ap (λ o. option_or (seen_at a path) o) (sym (first-append path xs ys));
  same = All-append (λ answer. seen_at c answer.path ≡ Some answer.look) xs ys
      (All-weaker (λ answer. seen_at b answer.path ≡ Some answer.look) (λ answer. seen_at c answer.path ≡ Some answer.look) (λ answer e. notes-keep b c ys answer.path answer.look m e) xs n.same)
      m.same;
}

-- ---- one answer

-- the answer is what was seen before
pub notes-again : (sights : Sights) (answer : Given) → seen_at sights answer.path ≡ Some answer.look → Notes sights sights (answer ∷ [])
notes-again sights answer e = record {
  first = λ path. again path (seen_at sights path) refl (bytes_eq answer.path path) refl;
  same = All-cons (λ other. seen_at sights other.path ≡ Some other.look) answer [] e (All-nil (λ other. seen_at sights other.path ≡ Some other.look));
}
  where
    again : (path : List ℕ) (o : Option Look) → o ≡ seen_at sights path → (b : Bool) → b ≡ bytes_eq answer.path path → o ≡ option_or o (cond b (Some answer.look) None)
    again path (Some look) p b q = refl
    again path None p false q = refl
    again path None p true q =
        let here : answer.path ≡ path = (bytes_eq-Decides answer.path path).0 (sym q) in
        absurd (cc (p ∙ ap (seen_at sights) (sym here) ∙ e))

-- a path is found in its own place alone
at-place : (path other : List ℕ) → is_at (slice_cmp nat_cmp path) other ≡ bytes_eq path other
at-place path other = is_eq-slice_cmp path other

-- the answer is the first about its path
pub notes-put : (old new : BTreeMap (List ℕ) Look) (answer : Given) → seen_at old.entries answer.path ≡ None
    → UpdatesBy (slice_cmp nat_cmp) (slice_cmp nat_cmp answer.path) old new (Some answer.look) → Notes old.entries new.entries (answer ∷ [])
notes-put old new answer none u = record {
  first = λ path. u.0 path ∙ ap (λ b. cond b (Some answer.look) (seen_at old.entries path)) (at-place answer.path path) ∙ put path (bytes_eq answer.path path) refl;
  same = All-cons (λ other. seen_at new.entries other.path ≡ Some other.look) answer [] u.1 (All-nil (λ other. seen_at new.entries other.path ≡ Some other.look));
}
  where
    put : (path : List ℕ) (b : Bool) → b ≡ bytes_eq answer.path path → cond b (Some answer.look) (seen_at old.entries path) ≡ option_or (seen_at old.entries path) (cond b (Some answer.look) None)
    put path false q = sym (or-none (seen_at old.entries path))
    put path true q =
        let here : answer.path ≡ path = (bytes_eq-Decides answer.path path).0 (sym q) in
        ap (λ o. option_or o (Some answer.look)) (sym none ∙ ap (seen_at old.entries) here)

-- ---- causes

pub first-contains : (path : List ℕ) (xs : List Given) (look : Look) → first_at path xs ≡ Some look → IsAnswered xs path look
first-contains path [] look e = absurd (cc e)
first-contains path (x ∷ xs) look e = by (bytes_eq x.path path) refl (first-contains path xs look) e
  where
    by : (b : Bool) → bytes_eq x.path path ≡ b → (first_at path xs ≡ Some look → IsAnswered xs path look) → cond b (Some x.look) (first_at path xs) ≡ Some look → IsAnswered (x ∷ xs) path look
    by true q rest p = (x, Contains-append_left (x ∷ []) xs x (0, omega arith, refl), (bytes_eq-Decides x.path path).0 q, cc p)
    by false q rest p =
        let there = rest p in
        (there.0, Contains-append_right (x ∷ []) xs there.0 there.1, there.2, there.3)

-- an answer stays one behind others
pub answered-later : (xs ys : List Given) (path : List ℕ) (look : Look) → IsAnswered ys path look → IsAnswered (xs ++ ys) path look
answered-later xs ys path look h = (h.0, Contains-append_right xs ys h.0 h.1, h.2, h.3)

pub seen-later : (a b : Sights) (xs ys : List Given) (path : List ℕ) (look : Look) → Notes a b xs → WasSeen b ys path look → WasSeen a (xs ++ ys) path look
seen-later a b xs ys path look n (inl e) =
    elim (or-cases (seen_at a path) (first_at path xs) look (sym (n.first path) ∙ e)) [
      | inl before ↦ inl before
      | inr there ↦ let found = first-contains path xs look there in inr (found.0, Contains-append_left xs ys found.0 found.1, found.2, found.3)
    ]
seen-later a b xs ys path look n (inr h) = inr (answered-later xs ys path look h)

-- what is seen first after some answers is seen first with them
pub first-later : (a b : Sights) (xs ys : List Given) (path : List ℕ) → Notes a b xs → first_seen a (xs ++ ys) path ≡ first_seen b ys path
first-later a b xs ys path n =
    ap (λ o. option_or (seen_at a path) o) (first-append path xs ys)
    ∙ sym (or-assoc (seen_at a path) (first_at path xs) (first_at path ys))
    ∙ ap (λ o. option_or o (first_at path ys)) (sym (n.first path))

pub begins-later : (a b : Sights) (xs ys : List Given) (change : ChangedInput) → Notes a b xs → BeginsWith b ys change → BeginsWith a (xs ++ ys) change
begins-later a b xs ys change n h = record { first_is = first-later a b xs ys change.path n ∙ h.first_is; first_alone = h.first_alone; second_alone = h.second_alone }

-- two looks that differ do so after other answers
pub differed-later : (a b : Sights) (xs ys : List Given) (change : ChangedInput) → Notes a b xs → HaveDiffered b ys change → HaveDiffered a (xs ++ ys) change
differed-later a b xs ys change n h = (begins-later a b xs ys change n h.0, (answered-later xs ys change.path change.second.look h.1.0, h.1.1))

-- the look that was seen first is so among more answers
first-wider : (a : Sights) (xs ys : List Given) (path : List ℕ) (look : Look) → first_seen a xs path ≡ Some look → first_seen a (xs ++ ys) path ≡ Some look
first-wider a xs ys path look e =
    ap (λ o. option_or (seen_at a path) o) (first-append path xs ys) ∙ sym (or-assoc (seen_at a path) (first_at path xs) (first_at path ys)) ∙ or-some (first_seen a xs path) (first_at path ys) look e

-- two looks that differ do so among more answers
pub differed-wider : (a : Sights) (xs ys : List Given) (change : ChangedInput) → HaveDiffered a xs change → HaveDiffered a (xs ++ ys) change
differed-wider a xs ys change h =
    let b = h.0 in
    let f = h.1.0 in (
      record { first_is = first-wider a xs ys change.path change.first.look b.first_is; first_alone = b.first_alone; second_alone = b.second_alone },
      ((f.0, Contains-append_left xs ys f.0 f.1, f.2, f.3), h.1.1),
    )

-- a fault after other answers
pub blames-later : (a b : Sights) (xs ys : List Given) (before then now : ℕ) (fault : SightFault) → Notes a b xs → before ≤ then → Blames b ys then now fault → Blames a (xs ++ ys) before now fault
blames-later a b xs ys before then now (SourceFault path) n le e = omega (arith, le, e)
blames-later a b xs ys before then now (InputChanged change) n le e = differed-later a b xs ys change n e
blames-later a b xs ys before then now NoMemory n le e = tt

-- ---- scenes

-- where what was seen and the answers are right, what was seen then is
pub right-noted : (scene : Scene) (old new : Sights) (answers : List Given) → Notes old new answers → AreRight scene old → All (IsRight scene) answers → AreRight scene new
right-noted scene old new answers n r all path look e =
    elim (or-cases (seen_at old path) (first_at path answers) look (sym (n.first path) ∙ e)) [
      | inl before ↦ r path look before
      | inr there ↦ told answers all there
    ]
  where
    told : (xs : List Given) → All (IsRight scene) xs → first_at path xs ≡ Some look → look ≡ scene.look path
    told xs each there =
        let found = first-contains path xs look there in
        let right : IsRight scene found.0 = All-contains (IsRight scene) xs found.0 each found.1 in
        sym found.3 ∙ right.look_is ∙ ap scene.look found.2

-- the same by way of a copy of the path
pub notes-put-at : (old new : BTreeMap (List ℕ) Look) (answer : Given) (path : List ℕ) → path ≡ answer.path → seen_at old.entries answer.path ≡ None
    → UpdatesBy (slice_cmp nat_cmp) (slice_cmp nat_cmp path) old new (Some answer.look) → Notes old.entries new.entries (answer ∷ []) × (seen_at new.entries answer.path ≡ Some answer.look)
notes-put-at old new answer path e none u =
    let there = subst (λ p. UpdatesBy (slice_cmp nat_cmp) (slice_cmp nat_cmp p) old new (Some answer.look)) e u in
    (notes-put old new answer none there, there.1)

-- a look that differs from the one before
pub changed-at : (sights : Sights) (path copy : List ℕ) (first second : Look) (bytes : Option (List ℕ)) (before now : ℕ) → copy ≡ path → Some first ≡ seen_at sights path → (first ≡ second → ⊥)
    → Blames sights (answer_of path second bytes ∷ []) before now (InputChanged (record { path = copy; first = record { look = first; digest = None }; second = record { look = second; digest = None } }))
changed-at sights path copy first second bytes before now e seen apart = (
  record {
    first_is = or-some (seen_at sights copy) (first_at copy (answer_of path second bytes ∷ [])) first (ap (seen_at sights) e ∙ sym seen);
    first_alone = refl;
    second_alone = refl;
  },
  ((answer_of path second bytes, (0, omega arith, refl), sym e, refl), apart),
)
