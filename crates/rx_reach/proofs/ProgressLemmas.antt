-- What is known after a file was found, or a try was taken in.
use Rattle.std.proofs.Common.{◌≡◌, ◌↔◌, ℕ, ◌⊎◌, inl, inr, List, [], refl, sym, ap, ◌∙◌, subst, arith}
use Rattle.std.specs.Prelude.{Contains, Err, Ok, OnOk, Result}
use Rattle.rx_world.specs.declared.input_files.InputFile.{InputFile}
use Rattle.rx_reach.specs.declared.tries.Candidate.TheVariants as candidate
use Rattle.rx_reach.specs.declared.tries.Tried.{Tried}
use Rattle.rx_reach.specs.declared.progress.Progress.{Progress}
use Rattle.rx_reach.specs.FileTables.{paths_of}
use Rattle.rx_reach.specs.PathSets.{Adds}
use Rattle.rx_reach.specs.Progress.{Finds, IsKnown, Stays, Takes}

abbrev LeftAdds : Progress → Progress → Tried → Type 0
LeftAdds old new tried = (path : List ℕ) → Contains new.left path ↔ (Contains old.left path ⊎ Contains tried.left path)

-- the same is known where both lists are the same
known-same : (old new : Progress) (path : List ℕ) → new.waiting ≡ old.waiting → new.read ≡ old.read → IsKnown new path → IsKnown old path
known-same old new path w r (inl h) = inl (subst (λ xs. Contains xs path) w h)
known-same old new path w r (inr h) = inr (subst (λ (xs : List InputFile). Contains (paths_of xs) path) r h)

pub finds-known : (p : Progress) (path : List ℕ) → Contains (paths_of p.read) path → Finds p p path
finds-known p path h = record {
  known = λ other. (λ k. inl k, λ k. elim k [ inl a ↦ a | inr e ↦ inr (subst (Contains (paths_of p.read)) (sym e) h) ]);
  hard_is = refl;
  left_is = refl;
}

pub finds-new : (old new : Progress) (path : List ℕ) → Adds old.waiting new.waiting path → new.read ≡ old.read → new.hard ≡ old.hard → new.left ≡ old.left → Finds old new path
finds-new old new path adds r h l = record { known = λ other. (λ k. to other k, λ k. from other k); hard_is = h; left_is = l }
  where
    to : (other : List ℕ) → IsKnown new other → IsKnown old other ⊎ (other ≡ path)
    to other (inl k) = elim ((adds other).0 k) [ inl e ↦ inr e | inr a ↦ inl (inl a) ]
    to other (inr k) = inl (inr (subst (λ (xs : List InputFile). Contains (paths_of xs) other) r k))

    from : (other : List ℕ) → IsKnown old other ⊎ (other ≡ path) → IsKnown new other
    from other (inl (inl a)) = inl ((adds other).1 (inr a))
    from other (inl (inr a)) = inr (subst (λ (xs : List InputFile). Contains (paths_of xs) other) (sym r) a)
    from other (inr e) = inl ((adds other).1 (inl e))

pub stays-found : (old new : Progress) (path : List ℕ) → Adds old.waiting new.waiting path → new.read ≡ old.read → (Contains (paths_of old.read) path → ⊥) → Stays old new
stays-found old new path adds r absent = record {
  read_is = r;
  apart = λ a other w k.
      let there = subst (λ (xs : List InputFile). Contains (paths_of xs) other) r k in
      elim ((adds other).0 w) [ inl e ↦ absent (subst (Contains (paths_of old.read)) e there) | inr h ↦ a other h there ];
}

pub takes-nothing : (blamed : List ℕ) (tried : Tried) (old new : Progress) → tried.candidate ≡ candidate.Nothing → new.waiting ≡ old.waiting → new.read ≡ old.read → new.hard ≡ old.hard → LeftAdds old new tried → Takes blamed tried old new
takes-nothing blamed tried old new is w r h left = record {
  known = λ path. (λ k. inl (known-same old new path w r k), λ k. elim k [ inl a ↦ known-same new old path (sym w) (sym r) a | inr e ↦ absurd (cc (sym is ∙ e)) ]);
  hard = λ path. (λ k. inl (subst (λ xs. Contains xs path) h k), λ k. elim k [ inl a ↦ subst (λ xs. Contains xs path) (sym h) a | inr e ↦ absurd (elim e [ inl x ↦ cc (sym is ∙ x.1) | inr x ↦ cc (sym is ∙ x) ]) ]);
  left = left;
}

pub takes-outside : (blamed : List ℕ) (tried : Tried) (old new : Progress) → tried.candidate ≡ candidate.Outside → new.waiting ≡ old.waiting → new.read ≡ old.read → Adds old.hard new.hard blamed → LeftAdds old new tried → Takes blamed tried old new
takes-outside blamed tried old new is w r adds left = record {
  known = λ path. (λ k. inl (known-same old new path w r k), λ k. elim k [ inl a ↦ known-same new old path (sym w) (sym r) a | inr e ↦ absurd (cc (sym is ∙ e)) ]);
  hard = λ path. (
    λ k. elim ((adds path).0 k) [ inl e ↦ inr (inl (e, is)) | inr a ↦ inl a ],
    λ k. (adds path).1 (elim k [ inl a ↦ inr a | inr e ↦ inl (elim e [ inl x ↦ x.0 | inr x ↦ absurd (cc (sym is ∙ x)) ]) ]),
  );
  left = left;
}

pub takes-other : (blamed : List ℕ) (tried : Tried) (old new : Progress) (met : List ℕ) → tried.candidate ≡ candidate.Other met → new.waiting ≡ old.waiting → new.read ≡ old.read → Adds old.hard new.hard met → LeftAdds old new tried → Takes blamed tried old new
takes-other blamed tried old new met is w r adds left = record {
  known = λ path. (λ k. inl (known-same old new path w r k), λ k. elim k [ inl a ↦ known-same new old path (sym w) (sym r) a | inr e ↦ absurd (cc (sym is ∙ e)) ]);
  hard = λ path. (
    λ k. elim ((adds path).0 k) [ inl e ↦ inr (inr (is ∙ ap (λ p. candidate.Other p) (sym e))) | inr a ↦ inl a ],
    λ k. (adds path).1 (elim k [ inl a ↦ inr a | inr e ↦ inl (elim e [ inl x ↦ absurd (cc (sym is ∙ x.1)) | inr x ↦ cc (sym is ∙ x) ]) ]),
  );
  left = left;
}

-- the left directories were added before the file was found
pub takes-found : {E : Type 0} (blamed : List ℕ) (tried : Tried) (old mid new : Progress) (found : List ℕ) (result : Result (Unit {0}) E) → tried.candidate ≡ candidate.Found found
    → mid.waiting ≡ old.waiting → mid.read ≡ old.read → mid.hard ≡ old.hard → OnOk result (Finds mid new found) → LeftAdds old mid tried → OnOk result (Takes blamed tried old new)
takes-found blamed tried old mid new found (Err e) is w r h f left = tt
takes-found blamed tried old mid new found (Ok u) is w r h f left = record {
  known = λ path. (
    λ k. elim ((f.known path).0 k) [ inl a ↦ inl (known-same old mid path w r a) | inr e ↦ inr (is ∙ ap (λ p. candidate.Found p) (sym e)) ],
    λ k. (f.known path).1 (elim k [ inl a ↦ inl (known-same mid old path (sym w) (sym r) a) | inr e ↦ inr (cc (sym is ∙ e)) ]),
  );
  hard = λ path. (
    λ k. inl (subst (λ xs. Contains xs path) (f.hard_is ∙ h) k),
    λ k. elim k [ inl a ↦ subst (λ xs. Contains xs path) (sym (f.hard_is ∙ h)) a | inr e ↦ absurd (elim e [ inl x ↦ cc (sym is ∙ x.1) | inr x ↦ cc (sym is ∙ x) ]) ],
  );
  left = λ path. (λ k. (left path).0 (subst (λ xs. Contains xs path) f.left_is k), λ k. subst (λ xs. Contains xs path) (sym f.left_is) ((left path).1 k));
}

-- a try that finds nothing adds nothing
pub takes-none : (blamed : List ℕ) (p : Progress) → Takes blamed (record { candidate = candidate.Nothing; left = [] }) p p
takes-none blamed p = takes-nothing blamed (record { candidate = candidate.Nothing; left = [] }) p p refl refl refl refl (λ path. (λ h. inl h, λ h. elim h [ inl a ↦ a | inr a ↦ absurd (omega (arith, a.1)) ]))
