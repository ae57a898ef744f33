-- The looks at the declared inputs, one after the other.
use Rattle.std.proofs.Common.{◌≡◌, ℕ, suc, ◌+◌, ◌<◌, ◌≤◌, Bool, true, false, not, cond, List, [], ◌∷◌, ◌++◌, append-nil, filter, length, get_or, take, drop, refl, sym, ap, subst, ◌∙◌, true≢false}
use Rattle.std.specs.Prelude.{None, Option, Some}
use Rattle.std.specs.List.{find, list_any}
use Rattle.std.specs.Option.{is_some}
use Rattle.rx_base.specs.Paths.{is_below}
use Rattle.rx_base.specs.SortedPaths.{first_below}
use Rattle.rx_base.proofs.SortedSearch.{position_is_any}
use Rattle.std.proofs.lemmas.List.{take-append-drop, take_all, take_more}
use Rattle.std.proofs.lemmas.List.Elements.{filter-append}
use Rattle.std.proofs.Math.Seq.{drop-cons}
use Rattle.rx_world.specs.declared.looks.Look.{Look}
use Rattle.rx_world.specs.declared.looks.Look.TheVariants.{Absent, Dir, File, Other}
use Rattle.rx_world.specs.declared.sources.Given.{Given}
use Rattle.rx_world.specs.declared.sources.Sources as sources
use Rattle.rx_world.specs.declared.world.World as world
use Rattle.rx_world.specs.Sources.{is_file}
use Rattle.rx_reach.specs.declared.faults.SightFault.{SightFault}
use Rattle.rx_reach.specs.declared.faults.SightFault.TheVariants.{InputChanged as Changed, NoMemory as OutOfMemory, SourceFault as Lost}
use Rattle.rx_scan.specs.declared.gather_fault.GatherFault.TheVariants.{InputMissing, NoMemory}
use Rattle.rx_scan.specs.declared.inputs.LookedInputs.{LookedInputs}
use Rattle.rx_reach.specs.Candidates.{is_dir}
use Rattle.rx_scan.specs.GatherFault.{fault_of}
use Rattle.rx_scan.specs.Inputs.{BlamesInputs, IsLooked, WasMissing, empty_among, is_absent, with_look}
use Rattle.rx_scan.specs.Lists.{BlamesSight, Fails, Learns, Stretch}
use Rattle.rx_reach.specs.Scans.{Ends, Scans}
use Rattle.rx_reach.specs.Scenes.{Always, Scene, Sees}
use Rattle.rx_reach.specs.Sights.{Notes, seen_at}
use Rattle.rx_reach.proofs.ScanLemmas.{ends-join, scans-on, scans-sees, sees-later}
use Rattle.rx_scan.proofs.Learning.{fails-after, fails-always, fails-ends, fails-so, learns-scans}

abbrev Sights : Type 0
Sights = List (List ℕ × Look)

-- ---- the first that passes

none_case : (b : Bool) (y : List ℕ) (o other : Option (List ℕ)) → cond b (Some y) o ≡ None → (o ≡ None → other ≡ None) → cond b (Some y) other ≡ None
none_case true y o other e f = absurd (cc e)
none_case false y o other e f = f e

find-none_more : (p : List ℕ → Bool) (xs : List (List ℕ)) (x : List ℕ) → find p xs ≡ None → p x ≡ false → find p (xs ++ x ∷ []) ≡ None
find-none_more p [] x e t = rw t refl
find-none_more p (y ∷ ys) x e t = none_case (p y) y (find p ys) (find p (ys ++ x ∷ [])) e (λ rest. find-none_more p ys x rest t)

here_case : (b : Bool) (x y : List ℕ) (o other : Option (List ℕ)) → cond b (Some y) o ≡ None → (o ≡ None → other ≡ Some x) → cond b (Some y) other ≡ Some x
here_case true x y o other e f = absurd (cc e)
here_case false x y o other e f = f e

find-here : (p : List ℕ → Bool) (xs rest : List (List ℕ)) (x : List ℕ) → find p xs ≡ None → p x ≡ true → find p (xs ++ x ∷ rest) ≡ Some x
find-here p [] rest x e t = rw t refl
find-here p (y ∷ ys) rest x e t = here_case (p y) x y (find p ys) (find p (ys ++ x ∷ rest)) e (λ none. find-here p ys rest x none t)

pub kept : (p : List ℕ → Bool) (xs : List (List ℕ)) (x : List ℕ) (b : Bool) (fs : List (List ℕ)) → fs ≡ filter p xs → p x ≡ b → fs ++ cond b (x ∷ []) [] ≡ filter p (xs ++ x ∷ [])
kept p xs x b fs e t = ap (λ s. s ++ cond b (x ∷ []) []) e ∙ ap (λ c. filter p xs ++ cond c (x ∷ []) []) (sym t) ∙ sym (filter-append p xs (x ∷ []))

left_out : (p : List ℕ → Bool) (xs : List (List ℕ)) (x : List ℕ) (fs : List (List ℕ)) → fs ≡ filter p xs → p x ≡ false → fs ≡ filter p (xs ++ x ∷ [])
left_out p xs x fs e t = sym (append-nil fs) ∙ kept p xs x false fs e t

not-not : (b : Bool) → not (not b) ≡ b
not-not true = refl
not-not false = refl

-- ---- one look more

looked-more : (scene : Scene) (xs : List (List ℕ)) (looked : LookedInputs) (x : List ℕ) (look : Look) → IsLooked scene xs looked → look ≡ scene.look x → is_absent look ≡ false → IsLooked scene (xs ++ x ∷ []) (with_look looked x look)
looked-more scene xs looked x Absent h e t = absurd (true≢false t)
looked-more scene xs looked x (File stamp executable) h e t = record {
  there = find-none_more (λ p. is_absent (scene.look p)) xs x h.there (ap is_absent (sym e));
  files = kept (λ p. is_file (scene.look p)) xs x true looked.files h.files (ap is_file (sym e));
  dirs = left_out (λ p. is_dir (scene.look p)) xs x looked.dirs h.dirs (ap is_dir (sym e));
}
looked-more scene xs looked x Dir h e t = record {
  there = find-none_more (λ p. is_absent (scene.look p)) xs x h.there (ap is_absent (sym e));
  files = left_out (λ p. is_file (scene.look p)) xs x looked.files h.files (ap is_file (sym e));
  dirs = kept (λ p. is_dir (scene.look p)) xs x true looked.dirs h.dirs (ap is_dir (sym e));
}
looked-more scene xs looked x Other h e t = record {
  there = find-none_more (λ p. is_absent (scene.look p)) xs x h.there (ap is_absent (sym e));
  files = left_out (λ p. is_file (scene.look p)) xs x looked.files h.files (ap is_file (sym e));
  dirs = left_out (λ p. is_dir (scene.look p)) xs x looked.dirs h.dirs (ap is_dir (sym e));
}

pub taken : (xs : List (List ℕ)) (i : ℕ) (x : List ℕ) → i < length xs → x ≡ get_or xs i x → take (i + 1) xs ≡ take i xs ++ x ∷ []
taken xs i x h e = take_more xs i x h ∙ ap (λ p. take i xs ++ p ∷ []) (sym e)

split : (xs : List (List ℕ)) (i : ℕ) (x : List ℕ) → i < length xs → x ≡ get_or xs i x → xs ≡ take i xs ++ x ∷ drop (suc i) xs
split xs i x h e = sym (take-append-drop i xs) ∙ ap (λ s. take i xs ++ s) (drop-cons xs i x h) ∙ ap (λ p. take i xs ++ p ∷ drop (suc i) xs) (sym e)

-- one directory more
pub empty-more : (files dirs : List (List ℕ)) (i : ℕ) (dir : List ℕ) (b : Bool) (empty next : List (List ℕ)) → i < length dirs → dir ≡ get_or dirs i dir → is_some (first_below files dir) ≡ not b → empty ≡ empty_among files (take i dirs) → next ≡ empty ++ cond b (dir ∷ []) [] → next ≡ empty_among files (take (i + 1) dirs)
empty-more files dirs i dir b empty next h e t before is =
    let p : List ℕ → Bool = λ d. not (list_any (λ file. is_below file d) files) in
    let here : p dir ≡ b = ap not (sym (position_is_any (λ file. is_below file dir) files) ∙ t) ∙ not-not b in
    is ∙ kept p (take i dirs) dir b empty before here ∙ ap (filter p) (sym (taken dirs i dir h e))

-- ---- what was seen of the inputs

absent-is : (look : Look) → is_absent look ≡ true → look ≡ Absent
absent-is Absent t = refl
absent-is (File stamp executable) t = absurd (true≢false (sym t))
absent-is Dir t = absurd (true≢false (sym t))
absent-is Other t = absurd (true≢false (sym t))

pub look-start : (sights : Sights) (inputs : List (List ℕ)) (looked : LookedInputs) → looked.files ≡ [] → looked.dirs ≡ [] → Sees sights (λ scene. IsLooked scene (take 0 inputs) looked)
look-start sights inputs looked f d scene right = record { there = refl; files = f; dirs = d }

pub look-more : (mid new : Sights) (answers : List Given) (inputs : List (List ℕ)) (i : ℕ) (input : List ℕ) (looked next : LookedInputs) (look : Look)
    → i < length inputs → input ≡ get_or inputs i input → is_absent look ≡ false → next ≡ with_look looked input look
    → Sees mid (λ scene. IsLooked scene (take i inputs) looked) → Notes mid new answers → seen_at new input ≡ Some look
    → Sees new (λ scene. IsLooked scene (take (i + 1) inputs) next)
look-more mid new answers inputs i input looked next look h e t is before n seen scene r =
    let was = sees-later mid new answers (λ x. IsLooked x (take i inputs) looked) n before scene r in
    rw (taken inputs i input h e, is) (looked-more scene (take i inputs) looked input look was (r input look seen) t)

missing-seen : (mid new : Sights) (answers : List Given) (inputs : List (List ℕ)) (i : ℕ) (input path : List ℕ) (looked : LookedInputs) (look : Look)
    → i < length inputs → input ≡ get_or inputs i input → path ≡ input → is_absent look ≡ true
    → Sees mid (λ scene. IsLooked scene (take i inputs) looked) → Notes mid new answers → seen_at new input ≡ Some look → WasMissing inputs new path
missing-seen mid new answers inputs i input path looked look h e is t before n seen = (
  ap (seen_at new) is ∙ seen ∙ ap Some (absent-is look t),
  λ scene r.
      let p : List ℕ → Bool = λ x. is_absent (scene.look x) in
      let was = sees-later mid new answers (λ x. IsLooked x (take i inputs) looked) n before scene r in
      ap (find p) (split inputs i input h e) ∙ find-here p (take i inputs) (drop (suc i) inputs) input was.there (ap is_absent (sym (r input look seen)) ∙ t) ∙ ap Some (sym is),
)

-- a fault of a look is one of the inputs
of-sight : (inputs roots : List (List ℕ)) (fault : SightFault) (st : Stretch) → BlamesSight fault st → BlamesInputs inputs roots (fault_of fault) st
of-sight inputs roots (Lost path) st h = h
of-sight inputs roots (Changed change) st h = h
of-sight inputs roots OutOfMemory st h = tt

module _ {T W : Type 0} (w : world.Ghosts W) (s : sources.Ghosts T W) where
  pub look-failed : (a b c : T) (old mid new : Sights) (P : Scene → Type 0) (inputs roots : List (List ℕ)) (fault : SightFault)
      → Scans w s a b old mid P → Ends w s b c mid fault → Fails w s a c old new (BlamesInputs inputs roots (fault_of fault))
  look-failed a b c old mid new P inputs roots fault k e =
      fails-so w s a c old new (BlamesSight fault) (BlamesInputs inputs roots (fault_of fault))
      (fails-ends w s a c old new fault (ends-join w s a b c old mid P fault k e)) (λ st h. of-sight inputs roots fault st h)

  pub look-missing : (a b c : T) (old mid new : Sights) (P Q : Scene → Type 0) (inputs roots : List (List ℕ)) (i : ℕ) (input path : List ℕ) (looked : LookedInputs) (look : Look)
      → i < length inputs → input ≡ get_or inputs i input → path ≡ input → is_absent look ≡ true
      → Scans w s a b old mid P → Scans w s b c mid new Q → Sees mid (λ scene. IsLooked scene (take i inputs) looked) → seen_at new input ≡ Some look
      → Fails w s a c old new (BlamesInputs inputs roots (InputMissing path))
  look-missing a b c old mid new P Q inputs roots i input path looked look h e is t k l before seen =
      fails-after w s a c old new Always (BlamesInputs inputs roots (InputMissing path))
      (learns-scans w s a c old new Always (scans-on w s a b c old mid new P Q k l))
      (λ xs ls n fact. (n, missing-seen mid new l.answers inputs i input path looked look h e is t before l.notes seen))

  -- all of the inputs were looked at
  pub look-end : (a b : T) (old new : Sights) (P : Scene → Type 0) (inputs : List (List ℕ)) (i : ℕ) (looked : LookedInputs) → length inputs ≤ i
      → Scans w s a b old new P → Sees new (λ scene. IsLooked scene (take i inputs) looked) → Learns w s a b old new (λ scene. IsLooked scene inputs looked)
  look-end a b old new P inputs i looked le k seen =
      learns-scans w s a b old new (λ scene. IsLooked scene inputs looked)
      (scans-sees w s a b old new P (λ scene. IsLooked scene inputs looked) k (λ scene r. subst (λ xs. IsLooked scene xs looked) (take_all i inputs le) (seen scene r)))

  -- memory may run out at any time
  pub out_of_memory : (a b : T) (old mid new : Sights) (P : Scene → Type 0) (inputs roots : List (List ℕ)) → Learns w s a b old mid P → Fails w s a b old new (BlamesInputs inputs roots NoMemory)
  out_of_memory a b old mid new P inputs roots l = fails-always w s a b old mid new P (BlamesInputs inputs roots NoMemory) l (λ st. tt)

  -- the same after one look more
  pub out_of_memory_then : (a b c : T) (old mid new : Sights) (P Q : Scene → Type 0) (inputs roots : List (List ℕ)) → Scans w s a b old mid P → Scans w s b c mid new Q
      → Fails w s a c old new (BlamesInputs inputs roots NoMemory)
  out_of_memory_then a b c old mid new P Q inputs roots k l =
      out_of_memory a c old new new Always inputs roots (learns-scans w s a c old new Always (scans-on w s a b c old mid new P Q k l))
