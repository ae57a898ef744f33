-- A file that is read, and what it includes.
use Rattle.std.proofs.Common.{◌≡◌, ℕ, ◌⊎◌, ◌&&◌, ◌||◌, inl, inr, Bool, true, false, List, map, refl, sym, ap, ◌∙◌, subst}
use Rattle.std.specs.Prelude.{Contains, flat_map}
use Rattle.rx_lex.specs.Directives.{Found}
use Rattle.rx_lex.specs.Found.{found_view, name_view}
use Rattle.rx_lex.specs.declared.found.Directives.{Directives}
use Rattle.rx_world.specs.declared.input_files.InputFile.{InputFile}
use Rattle.rx_reach.specs.declared.progress.Progress.{Progress}
use Rattle.rx_reach.specs.declared.searches.Search.{Search}
use Rattle.rx_reach.specs.Candidates.{Try}
use Rattle.rx_reach.specs.FileTables.{paths_of}
use Rattle.rx_reach.specs.PathSets.{Adds}
use Rattle.rx_reach.specs.Progress.{Explores, IsHardBy, IsHardIn, IsKnown, IsLeftBy, Marks, Seeks, Stays}
use Rattle.rx_reach.specs.Reach.{IsFound, has_hidden}
use Rattle.rx_reach.specs.Scenes.{Scene}
use Rattle.rx_reach.specs.Searches.{includes_in, includes_of, tries_in, tries_of}

pub marked-hidden : (path : List ℕ) (hidden : Bool) (old new : Progress) → hidden ≡ true → new.waiting ≡ old.waiting → new.read ≡ old.read → new.left ≡ old.left → Adds old.hard new.hard path → Marks path hidden old new
marked-hidden path hidden old new is w r l adds = record {
  waiting_is = w;
  read_is = r;
  left_is = l;
  hard = λ other. (
    λ h. elim ((adds other).0 h) [ inl e ↦ inr (e, is) | inr a ↦ inl a ],
    λ h. (adds other).1 (elim h [ inl a ↦ inr a | inr e ↦ inl e.0 ]),
  );
}

pub marked-open : (path : List ℕ) (hidden : Bool) (p : Progress) → hidden ≡ false → Marks path hidden p p
marked-open path hidden p is = record {
  waiting_is = refl;
  read_is = refl;
  left_is = refl;
  hard = λ other. (λ h. inl h, λ h. elim h [ inl a ↦ a | inr e ↦ absurd (cc (sym is ∙ e.1)) ]);
}

-- with the tries and the judgement as the code has them
explored-by : (scene : Scene) (search : Search) (path : List ℕ) (tries : List Try) (hidden : Bool) (p mid q : Progress) → tries ≡ tries_in search scene path → hidden ≡ has_hidden scene search path
    → Marks path hidden p mid → Seeks scene path tries mid q → Explores scene search path p q
explored-by scene search path tries hidden p mid q te he j s = record {
  known = λ other. (
    λ h. elim ((s.known other).0 h) [ inl a ↦ inl (back other a) | inr a ↦ inr (subst (λ ts. IsFound scene ts other) te a) ],
    λ h. (s.known other).1 (elim h [ inl a ↦ inl (forth other a) | inr a ↦ inr (subst (λ ts. IsFound scene ts other) (sym te) a) ]),
  );
  hard = λ other. (λ h. hard-to other ((s.hard other).0 h), λ h. (s.hard other).1 (hard-from other h));
  left = λ other. (
    λ h. elim ((s.left other).0 h) [ inl a ↦ inl (subst (λ xs. Contains xs other) j.left_is a) | inr a ↦ inr (subst (λ ts. IsLeftBy scene ts other) te a) ],
    λ h. (s.left other).1 (elim h [ inl a ↦ inl (subst (λ xs. Contains xs other) (sym j.left_is) a) | inr a ↦ inr (subst (λ ts. IsLeftBy scene ts other) (sym te) a) ]),
  );
}
  where
    back : (other : List ℕ) → IsKnown mid other → IsKnown p other
    back other (inl h) = inl (subst (λ xs. Contains xs other) j.waiting_is h)
    back other (inr h) = inr (subst (λ (xs : List InputFile). Contains (paths_of xs) other) j.read_is h)

    forth : (other : List ℕ) → IsKnown p other → IsKnown mid other
    forth other (inl h) = inl (subst (λ xs. Contains xs other) (sym j.waiting_is) h)
    forth other (inr h) = inr (subst (λ (xs : List InputFile). Contains (paths_of xs) other) (sym j.read_is) h)

    hard-to : (other : List ℕ) → Contains mid.hard other ⊎ IsHardBy scene path tries other → Contains p.hard other ⊎ IsHardIn scene search path other
    hard-to other (inl h) = elim ((j.hard other).0 h) [ inl a ↦ inl a | inr a ↦ inr (inl (a.0, sym he ∙ a.1)) ]
    hard-to other (inr h) = inr (inr (subst (λ ts. IsHardBy scene path ts other) te h))

    hard-from : (other : List ℕ) → Contains p.hard other ⊎ IsHardIn scene search path other → Contains mid.hard other ⊎ IsHardBy scene path tries other
    hard-from other (inl h) = inl ((j.hard other).1 (inl h))
    hard-from other (inr (inl h)) = inl ((j.hard other).1 (inr (h.0, he ∙ h.1)))
    hard-from other (inr (inr h)) = inr (subst (λ ts. IsHardBy scene path ts other) (sym te) h)

pub explored : (scene : Scene) (search : Search) (path text : List ℕ) (found : Directives) (hidden : Bool) (p mid q : Progress) → found_view found ≡ includes_in text → hidden ≡ (found.hard || (search.is_c && found.raw))
    → Marks path hidden p mid → Seeks scene path (flat_map (tries_of search path) (map name_view found.list.items)) mid q → scene.text path ≡ text → Explores scene search path p q
explored scene search path text found hidden p mid q view he j s e =
    let is : found_view found ≡ includes_of scene path = view ∙ ap includes_in (sym e) in
    explored-by scene search path _ hidden p mid q (ap (λ (f : Found). flat_map (tries_of search path) f.list) is) (he ∙ ap (λ (f : Found). f.hard || (search.is_c && f.raw)) is) j s

pub marked-stays : (path : List ℕ) (hidden : Bool) (old new : Progress) → Marks path hidden old new → Stays old new
marked-stays path hidden old new j = record {
  read_is = j.read_is;
  apart = λ a other w r. a other (subst (λ xs. Contains xs other) j.waiting_is w) (subst (λ (xs : List InputFile). Contains (paths_of xs) other) j.read_is r);
}
