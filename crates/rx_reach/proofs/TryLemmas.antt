-- What is kept of tries after one more.
use Rattle.std.proofs.Common.{◌≡◌, ℕ, ◌&&◌, Bool, true, false, cond, List, refl, sym, ap, ◌∙◌, subst}
use Rattle.std.specs.Prelude.{None, Option, Some, String, IfSome}
use Rattle.std.specs.Borrow.{Bor}
use Rattle.std.specs.BTreeMap.{BTreeMap, IsEmpty, UpdatesBy, get_by, get_by_text, is_at}
use Rattle.std.specs.Cmp.Lexicographic.{slice_cmp}
use Rattle.std.specs.Map.{lookup}
use Rattle.std.specs.Option.{option_copied}
use Rattle.std.specs.Ordering.{nat_cmp}
use Rattle.std.specs.Str.{bytes_eq}
use Rattle.std.specs.String.{string_bytes}
use Rattle.std.proofs.lemmas.Map.Text.{is_eq-slice_cmp}
use Rattle.std.proofs.lemmas.Slice.Eq.{bytes_eq-Decides}
use Rattle.std.proofs.lemmas.Bool.{and_parts}
use Rattle.rx_world.specs.declared.looks.Look.{Look}
use Rattle.rx_world.specs.declared.sources.Given.{Given}
use Rattle.rx_reach.specs.declared.tries.Tried.{Tried}
use Rattle.rx_reach.specs.Candidates.{IsTried, Try}
use Rattle.rx_reach.specs.Scenes.{Sees}
use Rattle.rx_reach.specs.Sights.{Notes}
use Rattle.rx_reach.specs.Tries.{AreKept, NamesPut, Puts, is_try, name_at, try_at}
use Rattle.rx_reach.proofs.ScanLemmas.{sees-later}

abbrev Names : Type 0 → Type 0
Names Y = BTreeMap (String Y) Tried

abbrev Dirs : Type 0 → Type 0
Dirs Y = BTreeMap (List ℕ) (Names Y)

-- ---- which try

try-is : (t other : Try) → is_try t other ≡ true → t ≡ other
try-is t other e =
    let both = and_parts (bytes_eq t.dir other.dir) (bytes_eq t.name other.name) e in
    let dir : t.dir ≡ other.dir = (bytes_eq-Decides t.dir other.dir).0 both.0 in
    let name : t.name ≡ other.name = (bytes_eq-Decides t.name other.name).0 both.1 in
    ap (λ d. let x : Try = record { dir = d; name = t.name } in x) dir ∙ ap (λ n. let x : Try = record { dir = other.dir; name = n } in x) name

-- ---- the map

-- what is found at a directory, after the names of one were changed
at-dir : {Y : Type 0} (old new : Dirs Y) (dir : List ℕ) (names : Names Y) → UpdatesBy (slice_cmp nat_cmp) (slice_cmp nat_cmp dir) old new (Some names)
    → (other : Try) → try_at new other ≡ name_at (cond (bytes_eq dir other.dir) (Some names) (get_by (slice_cmp nat_cmp other.dir) old)) other.name
at-dir old new dir names u other = ap (λ found. name_at found other.name) (u.0 other.dir ∙ ap (λ b. cond b (Some names) (get_by (slice_cmp nat_cmp other.dir) old)) (is_eq-slice_cmp dir other.dir))

pub puts : {Y : Type 0} (old new : Dirs Y) (dir name : List ℕ) (before after : Names Y) (tried : Tried) → ((x : List ℕ) → name_at (get_by (slice_cmp nat_cmp dir) old) x ≡ get_by_text before x)
    → UpdatesBy (slice_cmp nat_cmp) (slice_cmp nat_cmp dir) old new (Some after) → NamesPut before after name tried → Puts old new (record { dir = dir; name = name }) tried
puts old new dir name before after tried was u put other = at-dir old new dir after u other ∙ by (bytes_eq dir other.dir) refl
  where
    by : (b : Bool) → bytes_eq dir other.dir ≡ b
        → name_at (cond b (Some after) (get_by (slice_cmp nat_cmp other.dir) old)) other.name ≡ cond (b && bytes_eq name other.name) (Some tried) (try_at old other)
    by false e = refl
    by true e =
        let here : dir ≡ other.dir = (bytes_eq-Decides dir other.dir).0 e in
        put other.name ∙ ap (λ found. cond (bytes_eq name other.name) (Some tried) found) (sym (was other.name) ∙ ap (λ d. name_at (get_by (slice_cmp nat_cmp d) old) other.name) here)

pub puts-nothing : {Y : Type 0} (old new : Dirs Y) (dir : List ℕ) (before after : Names Y) → ((x : List ℕ) → name_at (get_by (slice_cmp nat_cmp dir) old) x ≡ get_by_text before x)
    → UpdatesBy (slice_cmp nat_cmp) (slice_cmp nat_cmp dir) old new (Some after) → ((x : List ℕ) → get_by_text after x ≡ get_by_text before x) → (other : Try) → try_at new other ≡ try_at old other
puts-nothing old new dir before after was u same other = at-dir old new dir after u other ∙ by (bytes_eq dir other.dir) refl
  where
    by : (b : Bool) → bytes_eq dir other.dir ≡ b → name_at (cond b (Some after) (get_by (slice_cmp nat_cmp other.dir) old)) other.name ≡ try_at old other
    by false e = refl
    by true e =
        let here : dir ≡ other.dir = (bytes_eq-Decides dir other.dir).0 e in
        same other.name ∙ sym (was other.name) ∙ ap (λ d. name_at (get_by (slice_cmp nat_cmp d) old) other.name) here

-- a map without names, where none were kept
pub nothing-yet : {Y : Type 0} (o : Option (Names Y)) (names : Names Y) → None ≡ o → IsEmpty names → (x : List ℕ) → name_at o x ≡ get_by_text names x
nothing-yet o names e empty x = ap (λ found. name_at found x) (sym e) ∙ sym (ap (λ entries. lookup (is_at (λ k. slice_cmp nat_cmp x (string_bytes k))) entries) empty)

-- ---- what is kept is right

pub kept-later : {Y : Type 0} (old new : List (List ℕ × Look)) (answers : List Given) (dirs : Dirs Y) → Notes old new answers → AreKept old dirs → AreKept new dirs
kept-later old new answers dirs n k t tried e = sees-later old new answers (λ scene. IsTried scene t tried) n (k t tried e)

pub kept-same : {Y : Type 0} (looks : List (List ℕ × Look)) (old new : Dirs Y) → ((t : Try) → try_at new t ≡ try_at old t) → AreKept looks old → AreKept looks new
kept-same looks old new same k t tried e = k t tried (sym (same t) ∙ e)

pub kept-put : {Y : Type 0} (looks : List (List ℕ × Look)) (old new : Dirs Y) (t : Try) (tried : Tried) → Puts old new t tried → AreKept looks old → Sees looks (λ scene. IsTried scene t tried) → AreKept looks new
kept-put looks old new t tried put k right other found at = by (is_try t other) refl
  where
    by : (b : Bool) → is_try t other ≡ b → Sees looks (λ scene. IsTried scene other found)
    by false e = k other found (sym (put other ∙ ap (λ b. cond b (Some tried) (try_at old other)) e) ∙ at)
    by true e =
        let there : Some tried ≡ Some found = sym (put other ∙ ap (λ b. cond b (Some tried) (try_at old other)) e) ∙ at in
        let is : tried ≡ found = cc there in
        λ scene r. subst (λ x. IsTried scene x found) (try-is t other e) (subst (IsTried scene t) is (right scene r))

pub found-right : {Y : Type 0} (looks : List (List ℕ × Look)) (dirs : Dirs Y) (t : Try) (found : Option (Bor Tried)) → option_copied found ≡ try_at dirs t → AreKept looks dirs
    → IfSome found (λ tried. Sees looks (λ scene. IsTried scene t tried.now))
found-right looks dirs t None e k = tt
found-right looks dirs t (Some tried) e k = k t tried.now (sym e)
