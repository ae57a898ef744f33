-- The next file that waits is read, until nothing waits.
use Rattle.std.proofs.Common.{◌≡◌, ℕ, ◌+◌, inl, inr, true, false, List, [], ◌∷◌, length, sym, ap, ◌∙◌, subst, arith}
use Rattle.std.specs.Prelude.{Contains, Some}
use Rattle.std.proofs.lemmas.List.Elements.{All-contains, All-nil}
use Rattle.std.proofs.lemmas.Map.Views.{All-after_first}
use Rattle.std.specs.declared.cmp.Ordering.TheVariants.{Less}
use Rattle.std.specs.Cmp.Lexicographic.{slice_cmp}
use Rattle.std.specs.Ordering.{nat_cmp}
use Rattle.rx_base.specs.Digests.{digest_of}
use Rattle.rx_base.specs.SortedPaths.{AreSorted}
use Rattle.rx_base.proofs.FrontOrder.{not_self}
use Rattle.rx_world.specs.declared.input_files.InputFile.{InputFile}
use Rattle.rx_world.specs.declared.looks.Look.{Look}
use Rattle.rx_world.specs.declared.looks.Look.TheVariants.{File}
use Rattle.rx_world.specs.declared.looks.Stamp.{Stamp}
use Rattle.rx_world.specs.Sources.{is_file}
use Rattle.rx_reach.specs.declared.progress.Progress.{Progress}
use Rattle.rx_reach.specs.declared.searches.Search.{Search}
use Rattle.rx_reach.specs.Explored.{Advances, AreSeen, Explored, GoesOn, HaveDigests, IsExplored}
use Rattle.rx_reach.specs.FileTables.{paths_of}
use Rattle.rx_reach.specs.Progress.{AreApart, IsKnown}
use Rattle.rx_reach.specs.Reach.{IsReached, LeadsTo}
use Rattle.rx_reach.specs.Scenes.{Scene}
use Rattle.rx_reach.specs.Sights.{seen_at}
use Rattle.rx_reach.specs.Visits.{Begins, VisitsAt}
use Rattle.rx_reach.proofs.ReachLemmas.{explored-first, explored-next, popped-visits}
use Rattle.rx_base.proofs.Members.{Contains-head, not_in_nothing, Contains-later}

-- the first of a sorted list is not among the others
pub first-gone : (path : List ℕ) (paths : List (List ℕ)) → AreSorted (path ∷ paths) → Contains paths path → ⊥
first-gone path paths s h = not_self path (All-contains (λ q. slice_cmp nat_cmp path q ≡ Less) paths path (All-after_first (slice_cmp nat_cmp) path paths s) h)

pub popped-gone : (old : List (List ℕ)) (path : List ℕ) (rest : List (List ℕ)) → old ≡ path ∷ rest → AreSorted old → Contains rest path → ⊥
popped-gone old path rest is s = first-gone path rest (subst AreSorted is s)

pub popped-apart : (path : List ℕ) (p mid : Progress) → p.waiting ≡ path ∷ mid.waiting → mid.read ≡ p.read → AreApart p → AreApart mid
popped-apart path p mid w r a = λ x k h. a x (subst (λ xs. Contains xs x) (sym w) (Contains-later path mid.waiting x k)) (subst (λ (xs : List InputFile). Contains (paths_of xs) x) r h)

pub popped-new : (p : Progress) (path : List ℕ) (rest : List (List ℕ)) → p.waiting ≡ path ∷ rest → AreApart p → Contains (paths_of p.read) path → ⊥
popped-new p path rest w a h = a path (subst (λ xs. Contains xs path) (sym w) (Contains-head path rest)) h

pub led-file : (scene : Scene) (search : Search) (files : List (List ℕ)) (path : List ℕ) → LeadsTo scene search files path → is_file (scene.look path) ≡ true
led-file scene search [] path (inl h) = h.1
led-file scene search [] path (inr h) = h.2.file
led-file scene search (before ∷ others) path h = h.1.2.file

-- what is reached is a file
pub reached-file : (scene : Scene) (search : Search) (path : List ℕ) → IsReached scene search path → is_file (scene.look path) ≡ true
reached-file scene search path h = led-file scene search h.0 path h.1

-- the first that waited was read
pub visits-next : (scene : Scene) (search : Search) (path : List ℕ) (p mid q : Progress) → p.waiting ≡ path ∷ mid.waiting → mid.read ≡ p.read → mid.hard ≡ p.hard → mid.left ≡ p.left
    → (is_file (scene.look path) ≡ true → VisitsAt scene search path mid q) → Explored scene search p → GoesOn scene search true p q
visits-next scene search path p mid q w r h l visits e =
    let known : IsKnown p path = inl (subst (λ xs. Contains xs path) (sym w) (Contains-head path mid.waiting)) in
    let v : VisitsAt scene search path mid q = visits (reached-file scene search path (e.reached path known)) in
    (explored-next scene search v.file p q (subst (IsKnown p) (sym v.path_is) known) (popped-visits scene search path p mid q w r h l v) e, v.count ∙ ap (λ (xs : List InputFile). length xs + 1) r)

-- none waited
pub none-next : (scene : Scene) (search : Search) (p : Progress) (rest : List (List ℕ)) → p.waiting ≡ [] → rest ≡ [] → Explored scene search p
    → GoesOn scene search false p (record { waiting = rest; read = p.read; hard = p.hard; left = p.left })
none-next scene search p rest was is e = (subst (λ w. Explored scene search (record { waiting = w; read = p.read; hard = p.hard; left = p.left })) (was ∙ sym is) e, is)

-- ---- over the turns

-- each file was read in a turn of its own
abbrev pub ReadEach : Scene → Search → ℕ → Progress → Progress → Type 0
ReadEach scene search count old new = Explored scene search old → Explored scene search new × (length new.read ≡ length old.read + count)

pub each-none : (scene : Scene) (search : Search) (p : Progress) → ReadEach scene search 0 p p
each-none scene search p e = (e, omega arith)

pub each-more : (scene : Scene) (search : Search) (count : ℕ) (p mid q : Progress) → ReadEach scene search count p mid → (Explored scene search mid → GoesOn scene search true mid q) → ReadEach scene search (count + 1) p q
each-more scene search count p mid q turned next e =
    let x = turned e in
    let y = next x.0 in
    (y.0, omega (arith, x.1, y.1))

pub each-done : (scene : Scene) (search : Search) (count most : ℕ) (p mid q : Progress) → ReadEach scene search count p mid → (Explored scene search mid → GoesOn scene search false mid q) → Explored scene search p → Advances scene search most p q
each-done scene search count most p mid q turned next e =
    let y = next (turned e).0 in
    (y.0, inl y.1)

pub each-out : (scene : Scene) (search : Search) (count most : ℕ) (p q : Progress) → count ≡ most → ReadEach scene search count p q → Explored scene search p → Advances scene search most p q
each-out scene search count most p q is turned e =
    let x = turned e in
    (x.0, inr (x.1 ∙ ap (λ n. length p.read + n) is))

-- ---- from the beginning

pub explored-all : (scene : Scene) (search : Search) (count : ℕ) (p q : Progress) → p.read ≡ [] → Begins scene search p → (Explored scene search p → Advances scene search count p q) → IsExplored scene search count q
explored-all scene search count p q empty b advances =
    let x = advances (explored-first scene search p empty b) in
    let z : length p.read ≡ 0 = ap (λ (xs : List InputFile). length xs) empty in
    (x.0, elim x.1 [ inl w ↦ inl w | inr n ↦ inr (omega (arith, n, z)) ])

pub empty-digests : (content : List ℕ → Stamp → List ℕ) (files : List InputFile) → files ≡ [] → HaveDigests content files
empty-digests content files e = subst (HaveDigests content) (sym e) (All-nil (λ (file : InputFile). file.digest ≡ digest_of (content file.path file.stamp)))

pub empty-seen : (sights : List (List ℕ × Look)) (files : List InputFile) → files ≡ [] → AreSeen sights files
empty-seen sights files e = subst (AreSeen sights) (sym e) (All-nil (λ (file : InputFile). seen_at sights file.path ≡ Some (File file.stamp file.executable)))

pub none-apart : (p : Progress) (rest : List (List ℕ)) → rest ≡ [] → AreApart (record { waiting = rest; read = p.read; hard = p.hard; left = p.left })
none-apart p rest is = λ path k _. not_in_nothing path (subst (λ xs. Contains xs path) is k)
