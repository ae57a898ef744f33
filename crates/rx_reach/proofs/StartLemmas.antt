-- The beginning of a scan: the source and the forced files.
use Rattle.std.proofs.Common.{◌≡◌, ℕ, ◌⊎◌, inl, inr, true, false, List, [], refl, sym, ap, ◌∙◌, subst}
use Rattle.std.specs.Prelude.{Contains, Err, Ok, OnOk, Result}
use Rattle.rx_world.specs.declared.input_files.InputFile.{InputFile}
use Rattle.rx_world.specs.declared.looks.Look.{Look}
use Rattle.rx_world.specs.Sources.{is_file}
use Rattle.rx_reach.specs.declared.progress.Progress.{Progress}
use Rattle.rx_reach.specs.declared.searches.Search.{Search}
use Rattle.rx_reach.specs.Candidates.{is_other}
use Rattle.rx_reach.specs.FileTables.{paths_of}
use Rattle.rx_reach.specs.PathSets.{Adds}
use Rattle.rx_reach.specs.Progress.{AreApart, Finds, IsHardBy, IsKnown, Seeks, TakesSource}
use Rattle.rx_reach.specs.Reach.{IsFirst, IsFound}
use Rattle.rx_reach.specs.Scenes.{Scene}
use Rattle.rx_reach.specs.Searches.{first_tries}
use Rattle.rx_reach.specs.Visits.{Begins, IsHardFirst}
use Rattle.rx_base.proofs.Members.{not_in_nothing}

pub source-file : {E : Type 0} (path : List ℕ) (look : Look) (old new : Progress) (result : Result (Unit {0}) E) → is_file look ≡ true → is_other look ≡ false
    → OnOk result (Finds old new path) → OnOk result (TakesSource path look old new)
source-file path look old new (Err e) t f found = tt
source-file path look old new (Ok u) t f found = record {
  known = λ other. (
    λ k. elim ((found.known other).0 k) [ inl a ↦ inl a | inr e ↦ inr (e, t) ],
    λ k. (found.known other).1 (elim k [ inl a ↦ inl a | inr e ↦ inr e.0 ]),
  );
  hard = λ other. (
    λ k. inl (subst (λ xs. Contains xs other) found.hard_is k),
    λ k. elim k [ inl a ↦ subst (λ xs. Contains xs other) (sym found.hard_is) a | inr e ↦ absurd (cc (sym f ∙ e.1)) ],
  );
  left_is = found.left_is;
}

pub source-other : (path : List ℕ) (look : Look) (old new : Progress) → is_file look ≡ false → is_other look ≡ true → Adds old.hard new.hard path
    → new.waiting ≡ old.waiting → new.read ≡ old.read → new.left ≡ old.left → TakesSource path look old new
source-other path look old new f t adds w r l = record {
  known = λ other. (
    λ k. inl (back other k),
    λ k. elim k [ inl a ↦ forth other a | inr e ↦ absurd (cc (sym f ∙ e.1)) ],
  );
  hard = λ other. (
    λ k. elim ((adds other).0 k) [ inl e ↦ inr (e, t) | inr a ↦ inl a ],
    λ k. (adds other).1 (elim k [ inl a ↦ inr a | inr e ↦ inl e.0 ]),
  );
  left_is = l;
}
  where
    back : (other : List ℕ) → IsKnown new other → IsKnown old other
    back other (inl h) = inl (subst (λ xs. Contains xs other) w h)
    back other (inr h) = inr (subst (λ (xs : List InputFile). Contains (paths_of xs) other) r h)

    forth : (other : List ℕ) → IsKnown old other → IsKnown new other
    forth other (inl h) = inl (subst (λ xs. Contains xs other) (sym w) h)
    forth other (inr h) = inr (subst (λ (xs : List InputFile). Contains (paths_of xs) other) (sym r) h)

pub source-nothing : (path : List ℕ) (look : Look) (p : Progress) → is_file look ≡ false → is_other look ≡ false → TakesSource path look p p
source-nothing path look p f o = record {
  known = λ other. (λ k. inl k, λ k. elim k [ inl a ↦ a | inr e ↦ absurd (cc (sym f ∙ e.1)) ]);
  hard = λ other. (λ k. inl k, λ k. elim k [ inl a ↦ a | inr e ↦ absurd (cc (sym o ∙ e.1)) ]);
  left_is = refl;
}

pub begins : (scene : Scene) (search : Search) (look : Look) (p mid q : Progress) → p.waiting ≡ [] → p.read ≡ [] → p.hard ≡ [] → p.left ≡ []
    → TakesSource search.source look p mid → look ≡ scene.look search.source → Seeks scene search.source (first_tries search) mid q → Begins scene search q
begins scene search look p mid q w r h l t seen s = record {
  known = λ path. (λ k. known-to path ((s.known path).0 k), λ k. (s.known path).1 (known-from path k));
  hard = λ path. (λ k. hard-to path ((s.hard path).0 k), λ k. (s.hard path).1 (hard-from path k));
  left = λ path. (
    λ k. elim ((s.left path).0 k) [ inl a ↦ absurd (not_in_nothing path (subst (λ xs. Contains xs path) (t.left_is ∙ l) a)) | inr a ↦ a ],
    λ k. (s.left path).1 (inr k),
  );
}
  where
    nothing : (path : List ℕ) → IsKnown p path → ⊥
    nothing path (inl k) = not_in_nothing path (subst (λ xs. Contains xs path) w k)
    nothing path (inr k) = not_in_nothing path (subst (λ (xs : List InputFile). Contains (paths_of xs) path) r k)

    known-to : (path : List ℕ) → IsKnown mid path ⊎ IsFound scene (first_tries search) path → IsFirst scene search path
    known-to path (inr k) = inr k
    known-to path (inl k) = elim ((t.known path).0 k) [
      | inl a ↦ absurd (nothing path a)
      | inr e ↦ inl (e.0, ap (λ x. is_file (scene.look x)) e.0 ∙ sym (ap is_file seen) ∙ e.1)
    ]

    known-from : (path : List ℕ) → IsFirst scene search path → IsKnown mid path ⊎ IsFound scene (first_tries search) path
    known-from path (inr k) = inr k
    known-from path (inl e) = inl ((t.known path).1 (inr (e.0, ap is_file seen ∙ sym (ap (λ x. is_file (scene.look x)) e.0) ∙ e.1)))

    hard-to : (path : List ℕ) → Contains mid.hard path ⊎ IsHardBy scene search.source (first_tries search) path → IsHardFirst scene search path
    hard-to path (inr k) = inr k
    hard-to path (inl k) = elim ((t.hard path).0 k) [
      | inl a ↦ absurd (not_in_nothing path (subst (λ xs. Contains xs path) h a))
      | inr e ↦ inl (e.0, ap (λ x. is_other (scene.look x)) e.0 ∙ sym (ap is_other seen) ∙ e.1)
    ]

    hard-from : (path : List ℕ) → IsHardFirst scene search path → Contains mid.hard path ⊎ IsHardBy scene search.source (first_tries search) path
    hard-from path (inr k) = inr k
    hard-from path (inl e) = inl ((t.hard path).1 (inr (e.0, ap is_other seen ∙ sym (ap (λ x. is_other (scene.look x)) e.0) ∙ e.1)))

pub empty-apart : (p : Progress) → p.read ≡ [] → AreApart p
empty-apart p r = λ path _ k. not_in_nothing path (subst (λ (xs : List InputFile). Contains (paths_of xs) path) r k)
