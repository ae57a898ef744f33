-- What a list of a source tree tells, and that it is noted.
use Rattle.std.proofs.Common.{◌≡◌, ℕ, zero, suc, ◌+◌, ◌<◌, ◌≤◌, inl, inr, true, List, [], ◌∷◌, ◌++◌, length, get_or, take, drop, map, nat_cmp, Less, refl, sym, ap, subst, ◌∙◌, arith}
use Rattle.std.specs.Prelude.{All, IfSome, None, Option, Some}
use Rattle.std.specs.List.{AllByRecursion}
use Rattle.std.specs.List.Sorted.{IsStrictlySortedBy}
use Rattle.std.specs.Cmp.Lexicographic.{slice_cmp}
use Rattle.std.proofs.lemmas.List.{map-append, take-append-drop, take_all, take-map, take_more, length-map, length-take}
use Rattle.std.proofs.lemmas.List.Elements.{All-cons, All-from_recursion, All-head, All-nil, recursion_from_All}
use Rattle.rx_base.specs.SortedPaths.{AreSorted}
use Rattle.rx_world.specs.declared.looks.Look.{Look}
use Rattle.rx_world.specs.declared.looks.Stamp.{Stamp}
use Rattle.rx_world.specs.declared.sources.Found.{Found}
use Rattle.rx_world.specs.declared.sources.Given.{Given}
use Rattle.rx_world.specs.declared.sources.SourceEntry.{SourceEntry}
use Rattle.rx_world.specs.declared.sources.Sources as sources
use Rattle.rx_world.specs.declared.world.World as world
use Rattle.rx_world.specs.Answers.{Gives, HasContent, IsAnswerOf}
use Rattle.rx_world.specs.Sources.{Adds, HoldContent, Lists, entry_at, files_under, given_all, given_look, is_file}
use Rattle.rx_base.proofs.Members.{All-among, Among, Among-from_contains, Contains-from_among}
use Rattle.rx_world.proofs.Among.{among-from_map, among-map}
use Rattle.rx_world.proofs.FilesUnder.{entry_at-path, list-is_right, under-has, under-is, under-only, under-sorted}
use Rattle.rx_reach.specs.declared.faults.SightFault.{SightFault}
use Rattle.rx_reach.specs.declared.faults.SightFault.TheVariants.{InputChanged, NoMemory, SourceFault}
use Rattle.rx_scan.specs.Lists.{IsListed, IsRightList, Learns, is_under, paths_of}
use Rattle.rx_reach.specs.Scenes.{IsRight, Scene, scene_of}
use Rattle.rx_reach.specs.Sights.{Blames, Notes}
use Rattle.rx_reach.proofs.SightLemmas.{blames-later, differed-wider, notes-join}
use Rattle.rx_scan.proofs.Learning.{RightBy}

abbrev Sights : Type 0
Sights = List (List ℕ × Look)

-- ---- each file is noted

given-more : (found : List Found) (i : ℕ) (item : Found) → i < length found → item ≡ get_or found i item → given_all (take (i + 1) found) ≡ given_all (take i found) ++ given_look item.path item.look ∷ []
given-more found i item h e =
    ap given_all (take_more found i item h ∙ ap (λ f. take i found ++ f ∷ []) (sym e))
    ∙ map-append (λ (f : Found). given_look f.path f.look) (take i found) (item ∷ [])

pub note-more : (a b c : Sights) (found : List Found) (i : ℕ) (item : Found) → i < length found → item ≡ get_or found i item → Notes a b (given_all (take i found)) → Notes b c (given_look item.path item.look ∷ []) → Notes a c (given_all (take (i + 1) found))
note-more a b c found i item h e n m = subst (λ xs. Notes a c xs) (sym (given-more found i item h e)) (notes-join a b c (given_all (take i found)) (given_look item.path item.look ∷ []) n m)

-- a fault among more answers
pub blames-wider : (a : Sights) (xs ys : List Given) (before now : ℕ) (fault : SightFault) → Blames a xs before now fault → Blames a (xs ++ ys) before now fault
blames-wider a xs ys before now (SourceFault path) e = e
blames-wider a xs ys before now (InputChanged change) e = differed-wider a xs ys change e
blames-wider a xs ys before now NoMemory e = tt

given-split : (found : List Found) (n : ℕ) → given_all (take n found) ++ given_all (drop n found) ≡ given_all found
given-split found n = sym (map-append (λ (f : Found). given_look f.path f.look) (take n found) (drop n found)) ∙ ap given_all (take-append-drop n found)

pub note-failed : (a b : Sights) (found : List Found) (i : ℕ) (item : Found) (before now : ℕ) (fault : SightFault) → i < length found → item ≡ get_or found i item → Notes a b (given_all (take i found)) → Blames b (given_look item.path item.look ∷ []) before now fault → Blames a (given_all found) before now fault
note-failed a b found i item before now fault h e n f =
    let so_far = blames-later a b (given_all (take i found)) (given_look item.path item.look ∷ []) before before now fault n (omega arith) f in
    let there = subst (λ xs. Blames a xs before now fault) (sym (given-more found i item h e)) so_far in
    subst (λ xs. Blames a xs before now fault) (given-split found (i + 1)) (blames-wider a (given_all (take (i + 1) found)) (given_all (drop (i + 1) found)) before now fault there)

-- ---- a list of a source tree that tells its paths

above-take : (path : List ℕ) (n : ℕ) (xs : List (List ℕ)) → AllByRecursion (λ y. slice_cmp nat_cmp path y ≡ Less) xs → AllByRecursion (λ y. slice_cmp nat_cmp path y ≡ Less) (take n xs)
above-take path zero xs h = tt
above-take path (suc n) [] h = tt
above-take path (suc n) (x ∷ xs) h = (h.0, above-take path n xs h.1)

sorted-take : (n : ℕ) (xs : List (List ℕ)) → AreSorted xs → AreSorted (take n xs)
unfolding IsStrictlySortedBy
sorted-take zero xs h = tt
sorted-take (suc n) [] h = tt
sorted-take (suc n) (x ∷ xs) h = (above-take x n xs h.0, sorted-take n xs h.1)

among-take : {K : Type 0} (q : K) (n : ℕ) (xs : List K) → Among q (take n xs) → Among q xs
among-take q zero xs a = absurd a
among-take q (suc n) [] a = absurd a
among-take q (suc n) (x ∷ xs) (inl e) = inl e
among-take q (suc n) (x ∷ xs) (inr a) = inr (among-take q n xs a)

abbrev path_of : SourceEntry → List ℕ
path_of entry = entry.path

abbrev found_of : SourceEntry → Found
found_of entry = record { path = entry.path; look = entry.look }

paths-found : (es : List SourceEntry) → paths_of (map found_of es) ≡ map path_of es
paths-found [] = refl
paths-found (e ∷ es) = ap (λ ps. e.path ∷ ps) (paths-found es)

right_of : (entries : List SourceEntry) (under : List ℕ) (most : ℕ) → IsRightList (scene_of entries) (record { under = under; most = most; found = map path_of (take (most + 1) (files_under under entries)) })
right_of entries under most =
    let files = files_under under entries in
    let is : (e : SourceEntry) → Among e files → entry_at e.path entries ≡ e = λ e a. All-among (λ x. entry_at x.path entries ≡ x) e files (recursion_from_All (λ x. entry_at x.path entries ≡ x) files (under-is under entries)) a in
    let size : length (map path_of (take (most + 1) files)) ≡ length (take (most + 1) files) = length-map (take (most + 1) files) path_of in
    record {
      sorted = subst (λ ps. AreSorted ps) (take-map path_of (most + 1) files) (sorted-take (most + 1) (map path_of files) (under-sorted under entries));
      only = λ path c.
          let a = among-from_map path_of path (take (most + 1) files) (Among-from_contains path (map path_of (take (most + 1) files)) c) in
          let there = among-take a.0 (most + 1) files a.1 in
          let o = under-only under a.0 entries there in
          let here = is a.0 there in (
            subst (λ (p : List ℕ). is_file (entry_at p entries).look ≡ true) a.2 (ap (λ (e : SourceEntry). is_file e.look) here ∙ o.0),
            subst (λ (p : List ℕ). is_under under p ≡ true) a.2 o.1,
          );
      whole = λ short path t u.
          let few : length files ≤ most + 1 = grind (arith, length-take) in
          let all : take (most + 1) files ≡ files = take_all (most + 1) files few in
          let has = among-map path_of (entry_at path entries) files (under-has under path entries t u) in
          Contains-from_among path (map path_of (take (most + 1) files)) (subst (λ (p : List ℕ). Among p (map path_of (take (most + 1) files))) (entry_at-path path entries) (subst (λ (fs : List SourceEntry). Among (entry_at path entries).path (map path_of fs)) (sym all) has));
    }

pub listing-right : (listed : Option (List SourceEntry)) (under : List ℕ) (most : ℕ) (found : List Found) → Lists listed under most found → RightBy listed (record { under = under; most = most; found = paths_of found } ∷ [])
listing-right None under most found h = tt
listing-right (Some entries) under most found h =
    All-cons (IsRightList (scene_of entries)) (record { under = under; most = most; found = paths_of found }) []
    (subst (λ (ps : List (List ℕ)). IsRightList (scene_of entries) (record { under = under; most = most; found = ps })) (sym (ap paths_of h ∙ paths-found (take (most + 1) (files_under under entries)))) (right_of entries under most))
    (All-nil (IsRightList (scene_of entries)))

no_bytes : (content : List ℕ → Stamp → List ℕ) (found : List Found) → AllByRecursion (HasContent content) (given_all found)
no_bytes content [] = tt
no_bytes content (f ∷ fs) = (tt, no_bytes content fs)

looks_of : (scene : Scene) (found : List Found) → AllByRecursion (IsRight scene) (given_all found) → AllByRecursion (λ f. f.look ≡ scene.look f.path) found
looks_of scene [] h = tt
looks_of scene (f ∷ fs) h = (h.0.look_is, looks_of scene fs h.1)

none-right : (o : Option (List SourceEntry)) → IfSome o (λ entries. All (IsAnswerOf entries) [])
none-right None = tt
none-right (Some entries) = All-nil (IsAnswerOf entries)

module _ {T W : Type 0} (w : world.Ghosts W) (s : sources.Ghosts T W) where
  abbrev Keeps : T → T → Type 0
  Keeps a b = s.keeps a → s.keeps b × (s.listed b ≡ s.listed a)

  -- where stamps are honest, what is listed afterwards holds the world's contents
  abbrev Holds : T → Type 0
  Holds b = w.stamps_honest → IfSome (s.listed b) (HoldContent w.content)

  pub gives-list : (a b : T) (under : List ℕ) (most : ℕ) (found : List Found) → Lists (s.listed a) under most found → Keeps a b → Holds b → Adds (s.given a) (s.given b) (given_all found) → s.faults a ≤ s.faults b
      → Gives w s a b (given_all found)
  gives-list a b under most found l k h g later = record {
    told = g;
    kept = k;
    by_list = λ _. list-is_right (s.listed a) under most found l;
    contents = λ _. All-from_recursion (HasContent w.content) (given_all found) (no_bytes w.content found);
    holds = λ e keep _. subst (λ o. IfSome o (HoldContent w.content)) (k keep).1 (h e);
    later = later;
  }

  pub gives-nothing : (a b : T) → Keeps a b → Adds (s.given a) (s.given b) [] → s.faults a ≤ s.faults b → Gives w s a b []
  gives-nothing a b k g later = record {
    told = g;
    kept = k;
    by_list = λ _. none-right (s.listed a);
    contents = λ _. All-nil (HasContent w.content);
    holds = λ e keep some. absurd (some refl);
    later = later;
  }

  pub learns-list : (a b : T) (old new : Sights) (under : List ℕ) (most : ℕ) (found : List Found) → Lists (s.listed a) under most found → Keeps a b → Holds b → Adds (s.given a) (s.given b) (given_all found) → s.faults a ≤ s.faults b
      → Notes old new (given_all found) → Learns w s a b old new (λ scene. IsListed scene under most found)
  learns-list a b old new under most found l k h g later n = record {
    answers = given_all found;
    lists = record { under = under; most = most; found = paths_of found } ∷ [];
    tells = record { gives = gives-list a b under most found l k h g later; by_list = λ _. listing-right (s.listed a) under most found l };
    notes = n;
    fact = λ scene shows. record {
      right = All-head (IsRightList scene) (record { under = under; most = most; found = paths_of found }) [] shows.listed;
      looks = All-from_recursion (λ f. f.look ≡ scene.look f.path) found (looks_of scene found (recursion_from_All (IsRight scene) (given_all found) shows.answered));
    };
  }
