-- Where a way ends, and what a try gives by it.
use Rattle.std.proofs.Common.{◌≡◌, ◌↔◌, ℕ, ◌+◌, ◌<◌, ◌≤◌, ◌==◌, inl, inr, Bool, true, false, cond, List, [], ◌∷◌, ◌++◌, length, get_or, drop, Ok, Err, refl, sym, ap, ◌∙◌, subst, append_assoc, append-nil, arith}
use Rattle.std.specs.Prelude.{Contains}
use Rattle.std.specs.Str.{IsUtf8}
use Rattle.std.proofs.lemmas.List.{at_drop_more, drop_all}
use Rattle.std.proofs.lemmas.Bool.{cases_Bool}
use Rattle.rx_base.specs.declared.path_fault.PathFault.{PathFault}
use Rattle.rx_base.specs.declared.path_fault.PathFault.TheVariants.{Absolute, AboveRoot, BadByte, Empty, NoMemory, TooLong}
use Rattle.rx_base.specs.Paths.{join_of}
use Rattle.rx_world.specs.declared.looks.Look.{Look}
use Rattle.rx_world.specs.declared.looks.Look.TheVariants.{Absent, Dir, File, Other}
use Rattle.rx_world.specs.Sources.{is_file}
use Rattle.rx_reach.specs.declared.tries.Candidate.{Candidate}
use Rattle.rx_reach.specs.declared.tries.Candidate.TheVariants as candidate
use Rattle.rx_reach.specs.declared.candidates.Step.{Step}
use Rattle.rx_reach.specs.declared.tries.Tried.{Tried}
use Rattle.rx_reach.specs.Candidates.{AreShort, Follows, IsAt, IsOutside, IsTried, Try, candidate_at_end, candidate_at, end_of, is_dir, is_other, is_passable, left_at, left_of, refusal, step_look, candidate_at_stop, walked, way}
use Rattle.rx_reach.specs.Scenes.{Scene}
use Rattle.rx_base.proofs.Members.{Contains-head, Contains-later, Contains-cons_cases}

-- ---- step by step

-- what is still to be found, behind the steps so far
abbrev pub GoesOn : Scene → List Step → List ℕ → List (List ℕ) → ℕ → Type 0
GoesOn scene all path left i = (candidate_at scene all path ≡ candidate_at scene (drop i all) path) × (left_of (walked scene all) ≡ left ++ left_of (walked scene (drop i all)))

passable-from : (scene : Scene) (step : Step) (look : Look) (b : Bool) → is_dir look ≡ b → look ≡ step_look scene step.path → is_passable scene step ≡ b
passable-from scene step look b e h = sym (ap is_dir h) ∙ e

candidate-pass : (scene : Scene) (step : Step) (others : List Step) (path : List ℕ) → is_passable scene step ≡ true → candidate_at scene (step ∷ others) path ≡ candidate_at scene others path
candidate-pass scene step others path e = rw e refl

candidate-stop : (scene : Scene) (step : Step) (others : List Step) (path : List ℕ) → is_passable scene step ≡ false → candidate_at scene (step ∷ others) path ≡ candidate_at_stop (step_look scene step.path) step.path
candidate-stop scene step others path e = rw e refl

walked-pass : (scene : Scene) (step : Step) (others : List Step) → is_passable scene step ≡ true → walked scene (step ∷ others) ≡ step ∷ walked scene others
walked-pass scene step others e = rw e refl

walked-stop : (scene : Scene) (step : Step) (others : List Step) → is_passable scene step ≡ false → walked scene (step ∷ others) ≡ []
walked-stop scene step others e = rw e refl

left-first : (step : Step) (look : Look) (others : List Step) → is_dir look ≡ true → left_of (step ∷ others) ≡ left_at look step ++ left_of others
left-first step look others e = rw e (by step.left)
  where
    by : (b : Bool) → cond b (step.path ∷ left_of others) (left_of others) ≡ cond b (step.path ∷ []) [] ++ left_of others
    by true = refl
    by false = refl

left-none : (step : Step) (look : Look) → is_dir look ≡ false → left_at look step ≡ []
left-none step look e = rw e refl

pub step-passes : (scene : Scene) (all : List Step) (path : List ℕ) (old new : List (List ℕ)) (i : ℕ) (step : Step) (look : Look) → i < length all → step ≡ get_or all i step
    → is_dir look ≡ true → new ≡ old ++ left_at look step → look ≡ step_look scene step.path → GoesOn scene all path old i → GoesOn scene all path new (i + 1)
step-passes scene all path old new i step look h e dir pushed is so =
    let pass = passable-from scene step look true dir is in
    let rest = drop (i + 1) all in (
      so.0 ∙ at_drop_more (λ steps. candidate_at scene steps path) all i step h ∙ ap (λ s. candidate_at scene (s ∷ rest) path) (sym e) ∙ candidate-pass scene step rest path pass,
      so.1 ∙ ap (λ more. old ++ more) (at_drop_more (λ steps. left_of (walked scene steps)) all i step h ∙ ap (λ s. left_of (walked scene (s ∷ rest))) (sym e) ∙ ap left_of (walked-pass scene step rest pass) ∙ left-first step look (walked scene rest) dir)
          ∙ sym (append_assoc old (left_at look step) (left_of (walked scene rest))) ∙ ap (λ (front : List (List ℕ)). front ++ left_of (walked scene rest)) (sym pushed),
    )

pub step-stops : (scene : Scene) (all : List Step) (path : List ℕ) (old new : List (List ℕ)) (i : ℕ) (step : Step) (look : Look) (found : Candidate) → i < length all → step ≡ get_or all i step
    → is_dir look ≡ false → new ≡ old ++ left_at look step → found ≡ candidate_at_stop look step.path → look ≡ step_look scene step.path → GoesOn scene all path old i
    → Follows scene all path (record { candidate = found; left = new })
step-stops scene all path old new i step look found h e dir pushed f is so =
    let stop = passable-from scene step look false dir is in
    let rest = drop (i + 1) all in (
      f ∙ ap (λ l. candidate_at_stop l step.path) is
          ∙ sym (so.0 ∙ at_drop_more (λ steps. candidate_at scene steps path) all i step h ∙ ap (λ s. candidate_at scene (s ∷ rest) path) (sym e) ∙ candidate-stop scene step rest path stop),
      pushed ∙ ap (λ more. old ++ more) (left-none step look dir)
          ∙ sym (so.1 ∙ ap (λ more. old ++ more) (at_drop_more (λ steps. left_of (walked scene steps)) all i step h ∙ ap (λ s. left_of (walked scene (s ∷ rest))) (sym e) ∙ ap left_of (walked-stop scene step rest stop))),
    )

pub end-arrives : (scene : Scene) (all : List Step) (path : List ℕ) (left : List (List ℕ)) (i : ℕ) (look : Look) (found : Candidate) → length all ≤ i
    → found ≡ candidate_at_end look path → look ≡ scene.look path → GoesOn scene all path left i → Follows scene all path (record { candidate = found; left = left })
end-arrives scene all path left i look found h f is so =
    let none = drop_all i all h in (
      f ∙ ap (λ l. candidate_at_end l path) is ∙ sym (so.0 ∙ ap (λ steps. candidate_at scene steps path) none),
      sym (so.1 ∙ ap (λ steps. left ++ left_of (walked scene steps)) none ∙ append-nil left),
    )

-- ---- what the end tells

at_end-found : (look : Look) (path found : List ℕ) → candidate_at_end look path ≡ candidate.Found found → (is_file look ≡ true) × (path ≡ found)
at_end-found (File stamp executable) path found e = (refl, cc e)
at_end-found Other path found e = absurd (cc e)
at_end-found Absent path found e = absurd (cc e)
at_end-found Dir path found e = absurd (cc e)

at_end-other : (look : Look) (path found : List ℕ) → candidate_at_end look path ≡ candidate.Other found → (is_other look ≡ true) × (path ≡ found)
at_end-other Other path found e = (refl, cc e)
at_end-other (File stamp executable) path found e = absurd (cc e)
at_end-other Absent path found e = absurd (cc e)
at_end-other Dir path found e = absurd (cc e)

at_end-file : (look : Look) (path : List ℕ) → is_file look ≡ true → candidate_at_end look path ≡ candidate.Found path
at_end-file (File stamp executable) path e = refl
at_end-file Other path e = absurd (cc e)
at_end-file Absent path e = absurd (cc e)
at_end-file Dir path e = absurd (cc e)

at_end-is_other : (look : Look) (path : List ℕ) → is_other look ≡ true → candidate_at_end look path ≡ candidate.Other path
at_end-is_other Other path e = refl
at_end-is_other (File stamp executable) path e = absurd (cc e)
at_end-is_other Absent path e = absurd (cc e)
at_end-is_other Dir path e = absurd (cc e)

at_end-inside : (look : Look) (path : List ℕ) → candidate_at_end look path ≡ candidate.Outside → ⊥
at_end-inside Other path e = cc e
at_end-inside (File stamp executable) path e = cc e
at_end-inside Absent path e = cc e
at_end-inside Dir path e = cc e

at_stop-found : (look : Look) (path found : List ℕ) → candidate_at_stop look path ≡ candidate.Found found → ⊥
at_stop-found Other path found e = cc e
at_stop-found (File stamp executable) path found e = cc e
at_stop-found Absent path found e = cc e
at_stop-found Dir path found e = cc e

at_stop-other : (look : Look) (path found : List ℕ) → candidate_at_stop look path ≡ candidate.Other found → (is_other look ≡ true) × (path ≡ found)
at_stop-other Other path found e = (refl, cc e)
at_stop-other (File stamp executable) path found e = absurd (cc e)
at_stop-other Absent path found e = absurd (cc e)
at_stop-other Dir path found e = absurd (cc e)

at_stop-is_other : (look : Look) (path : List ℕ) → is_other look ≡ true → candidate_at_stop look path ≡ candidate.Other path
at_stop-is_other Other path e = refl
at_stop-is_other (File stamp executable) path e = absurd (cc e)
at_stop-is_other Absent path e = absurd (cc e)
at_stop-is_other Dir path e = absurd (cc e)

at_stop-inside : (look : Look) (path : List ℕ) → candidate_at_stop look path ≡ candidate.Outside → ⊥
at_stop-inside Other path e = cc e
at_stop-inside (File stamp executable) path e = cc e
at_stop-inside Absent path e = cc e
at_stop-inside Dir path e = cc e

-- what stands at a step where one can't go on is what the scene has there
stop-look : (scene : Scene) (step : Step) → is_passable scene step ≡ false → step_look scene step.path ≡ scene.look step.path
stop-look scene step e = by (length step.path == 0) e
  where
    by : (b : Bool) → is_dir (cond b Dir (scene.look step.path)) ≡ false → cond b Dir (scene.look step.path) ≡ scene.look step.path
    by true p = absurd (cc p)
    by false p = refl

whole-found : (scene : Scene) (steps : List Step) (path : List ℕ) → walked scene steps ≡ steps → is_file (scene.look path) ≡ true → candidate_at scene steps path ≡ candidate.Found path
whole-found scene [] path e f = at_end-file (scene.look path) path f
whole-found scene (step ∷ others) path e f =
    elim (cases_Bool (is_passable scene step)) [
      | inl p ↦ candidate-pass scene step others path p ∙ whole-found scene others path (cc (sym (walked-pass scene step others p) ∙ e)) f
      | inr p ↦ absurd (cc (sym (walked-stop scene step others p) ∙ e))
    ]

found-whole : (scene : Scene) (steps : List Step) (path found : List ℕ) → candidate_at scene steps path ≡ candidate.Found found → (walked scene steps ≡ steps) × (is_file (scene.look path) ≡ true) × (path ≡ found)
found-whole scene [] path found e = let a = at_end-found (scene.look path) path found e in (refl, a.0, a.1)
found-whole scene (step ∷ others) path found e =
    elim (cases_Bool (is_passable scene step)) [
      | inl p ↦ let r = found-whole scene others path found (sym (candidate-pass scene step others path p) ∙ e) in (walked-pass scene step others p ∙ ap (λ s. step ∷ s) r.0, r.1, r.2)
      | inr p ↦ absurd (at_stop-found _ _ found (sym (candidate-stop scene step others path p) ∙ e))
    ]

end-pass : (scene : Scene) (step : Step) (others : List Step) (path : List ℕ) → is_passable scene step ≡ true → end_of scene (step ∷ others) path ≡ end_of scene others path
end-pass scene step others path e = rw e refl

end-stop : (scene : Scene) (step : Step) (others : List Step) (path : List ℕ) → is_passable scene step ≡ false → end_of scene (step ∷ others) path ≡ step.path
end-stop scene step others path e = rw e refl

end-other : (scene : Scene) (steps : List Step) (path end : List ℕ) → end ≡ end_of scene steps path → is_other (scene.look end) ≡ true → candidate_at scene steps path ≡ candidate.Other end
end-other scene [] path end e o = let o2 = subst (λ p. is_other (scene.look p) ≡ true) e o in at_end-is_other (scene.look path) path o2 ∙ ap (λ p. candidate.Other p) (sym e)
end-other scene (step ∷ others) path end e o =
    elim (cases_Bool (is_passable scene step)) [
      | inl p ↦ candidate-pass scene step others path p ∙ end-other scene others path end (e ∙ end-pass scene step others path p) o
      | inr p ↦
          let at : end ≡ step.path = e ∙ end-stop scene step others path p in
          let o2 = subst (λ q. is_other (scene.look q) ≡ true) at o in
          candidate-stop scene step others path p ∙ at_stop-is_other (step_look scene step.path) step.path (ap is_other (stop-look scene step p) ∙ o2) ∙ ap (λ q. candidate.Other q) (sym at)
    ]

other-end : (scene : Scene) (steps : List Step) (path end : List ℕ) → candidate_at scene steps path ≡ candidate.Other end → (end ≡ end_of scene steps path) × (is_other (scene.look end) ≡ true)
other-end scene [] path end e = let a = at_end-other (scene.look path) path end e in (sym a.1, subst (λ q. is_other (scene.look q) ≡ true) a.1 a.0)
other-end scene (step ∷ others) path end e =
    elim (cases_Bool (is_passable scene step)) [
      | inl p ↦ let r = other-end scene others path end (sym (candidate-pass scene step others path p) ∙ e) in (r.0 ∙ sym (end-pass scene step others path p), r.1)
      | inr p ↦
          let a = at_stop-other (step_look scene step.path) step.path end (sym (candidate-stop scene step others path p) ∙ e) in
          (sym a.1 ∙ sym (end-stop scene step others path p), subst (λ q. is_other (scene.look q) ≡ true) a.1 (ap is_other (sym (stop-look scene step p)) ∙ a.0))
    ]

end-inside : (scene : Scene) (steps : List Step) (path : List ℕ) → candidate_at scene steps path ≡ candidate.Outside → ⊥
end-inside scene [] path e = at_end-inside (scene.look path) path e
end-inside scene (step ∷ others) path e =
    elim (cases_Bool (is_passable scene step)) [
      | inl p ↦ end-inside scene others path (sym (candidate-pass scene step others path p) ∙ e)
      | inr p ↦ at_stop-inside _ _ (sym (candidate-stop scene step others path p) ∙ e)
    ]

-- ---- what is left again

left-contains : (steps : List Step) (path : List ℕ) → Contains steps (record { path = path; left = true }) → Contains (left_of steps) path
left-contains [] path h = absurd (omega (arith, h.1))
left-contains (step ∷ others) path h =
    elim (Contains-cons_cases step others (record { path = path; left = true }) h) [
      | inl e ↦ let is : step.left ≡ true = ap (λ s. s.left) e in let at : step.path ≡ path = ap (λ s. s.path) e in rw is (subst (λ p. Contains (p ∷ left_of others) path) (sym at) (Contains-head path (left_of others)))
      | inr r ↦ by step.left (left-contains others path r)
    ]
  where
    by : (b : Bool) → Contains (left_of others) path → Contains (cond b (step.path ∷ left_of others) (left_of others)) path
    by true r = Contains-later step.path (left_of others) path r
    by false r = r

contains-left : (steps : List Step) (path : List ℕ) → Contains (left_of steps) path → Contains steps (record { path = path; left = true })
contains-left [] path h = absurd (omega (arith, h.1))
contains-left (step ∷ others) path h = by step.left refl (contains-left others path) h
  where
    by : (b : Bool) → step.left ≡ b → (Contains (left_of others) path → Contains others (record { path = path; left = true }))
        → Contains (cond b (step.path ∷ left_of others) (left_of others)) path → Contains (step ∷ others) (record { path = path; left = true })
    by false e rest k = Contains-later step others (record { path = path; left = true }) (rest k)
    by true e rest k =
        elim (Contains-cons_cases step.path (left_of others) path k) [
          | inl at ↦ let same : step ≡ record { path = path; left = true } = ap (λ p. record { path = p; left = step.left }) at ∙ ap (λ b. record { path = path; left = b }) e in subst (λ s. Contains (s ∷ others) (record { path = path; left = true })) (sym same) (Contains-head _ others)
          | inr r ↦ Contains-later step others (record { path = path; left = true }) (rest r)
        ]

-- ---- tries

-- no path, and nothing of it
nowhere : (scene : Scene) (t : Try) (found : Candidate) → ((end : List ℕ) → IsAt t end → ⊥) → IsOutside t ↔ (found ≡ candidate.Outside)
    → ((path : List ℕ) → found ≡ candidate.Found path → ⊥) → ((path : List ℕ) → found ≡ candidate.Other path → ⊥) → IsTried scene t (record { candidate = found; left = [] })
nowhere scene t found never out f o = record {
  finds = λ path. (λ h. absurd (never path h.at), λ e. absurd (f path e));
  outside = out;
  meets = λ path. (λ h. absurd (never h.end h.at), λ e. absurd (o path e));
  leaves = λ path. (λ h. absurd (never h.0 h.1), λ h. absurd (omega (arith, h.1)));
}

pub tried-no_text : (scene : Scene) (t : Try) → (IsUtf8 t.name → ⊥) → IsTried scene t (record { candidate = candidate.Nothing; left = [] })
tried-no_text scene t never = nowhere scene t candidate.Nothing (λ end h. never h.0) (λ h. absurd (never h.0), λ e. absurd (cc e)) (λ path e. cc e) (λ path e. cc e)

pub tried-long : (scene : Scene) (t : Try) (path : List ℕ) → join_of t.dir t.name ≡ Ok path → (AreShort (way t) → ⊥) → IsTried scene t (record { candidate = candidate.Nothing; left = [] })
tried-long scene t path e never =
    nowhere scene t candidate.Nothing (λ end h. never h.2) (λ h. elim h.1 [ inl a ↦ absurd (cc (sym e ∙ a)) | inr a ↦ absurd (cc (sym e ∙ a)) ], λ f. absurd (cc f)) (λ p f. cc f) (λ p f. cc f)

pub tried-refused : (scene : Scene) (t : Try) (fault : PathFault) (found : Candidate) → IsUtf8 t.name → join_of t.dir t.name ≡ Err fault → found ≡ refusal fault
    → IsTried scene t (record { candidate = found; left = [] })
tried-refused scene t fault found text e f = subst (λ c. IsTried scene t (record { candidate = c; left = [] })) (sym f) (by fault e)
  where
    never : (why : PathFault) → join_of t.dir t.name ≡ Err why → (end : List ℕ) → IsAt t end → ⊥
    never why p end h = cc (sym p ∙ h.1)

    apart : (why : PathFault) → join_of t.dir t.name ≡ Err why → (why ≡ Absolute → ⊥) → (why ≡ AboveRoot → ⊥) → IsOutside t → ⊥
    apart why p a b h = elim h.1 [ inl q ↦ a (cc (sym p ∙ q)) | inr q ↦ b (cc (sym p ∙ q)) ]

    by : (why : PathFault) → join_of t.dir t.name ≡ Err why → IsTried scene t (record { candidate = refusal why; left = [] })
    by Absolute p = nowhere scene t candidate.Outside (never Absolute p) (λ _. refl, λ _. (text, inl p)) (λ q x. cc x) (λ q x. cc x)
    by AboveRoot p = nowhere scene t candidate.Outside (never AboveRoot p) (λ _. refl, λ _. (text, inr p)) (λ q x. cc x) (λ q x. cc x)
    by Empty p = nowhere scene t candidate.Nothing (never Empty p) (λ h. absurd (apart Empty p (λ x. cc x) (λ x. cc x) h), λ x. absurd (cc x)) (λ q x. cc x) (λ q x. cc x)
    by TooLong p = nowhere scene t candidate.Nothing (never TooLong p) (λ h. absurd (apart TooLong p (λ x. cc x) (λ x. cc x) h), λ x. absurd (cc x)) (λ q x. cc x) (λ q x. cc x)
    by (BadByte at) p = nowhere scene t candidate.Nothing (never (BadByte at) p) (λ h. absurd (apart (BadByte at) p (λ x. cc x) (λ x. cc x) h), λ x. absurd (cc x)) (λ q x. cc x) (λ q x. cc x)
    by NoMemory p = nowhere scene t candidate.Nothing (never NoMemory p) (λ h. absurd (apart NoMemory p (λ x. cc x) (λ x. cc x) h), λ x. absurd (cc x)) (λ q x. cc x) (λ q x. cc x)

pub tried-follows : (scene : Scene) (t : Try) (path : List ℕ) (passed : List Step) (tried : Tried) → IsUtf8 t.name → join_of t.dir t.name ≡ Ok path → passed ≡ way t → AreShort passed → Follows scene passed path tried → IsTried scene t tried
tried-follows scene t path passed tried text e p short f = record {
  finds = λ q. (
    λ h. let same : path ≡ q = cc (sym e ∙ h.at.1) in rw (f.0, p) (whole-found scene (way t) path h.passes (subst (λ x. is_file (scene.look x) ≡ true) (sym same) h.file) ∙ ap (λ x. candidate.Found x) same),
    λ c. let r = found-whole scene passed path q (sym f.0 ∙ c) in record { at = (text, e ∙ ap (λ x. Ok x) r.2, subst AreShort p short); passes = subst (λ s. walked scene s ≡ s) p r.0; file = subst (λ x. is_file (scene.look x) ≡ true) r.2 r.1 },
  );
  outside = (λ h. elim h.1 [ inl a ↦ absurd (cc (sym e ∙ a)) | inr a ↦ absurd (cc (sym e ∙ a)) ], λ c. absurd (end-inside scene passed path (sym f.0 ∙ c)));
  meets = λ q. (
    λ h. let same : h.end ≡ path = cc (sym h.at.1 ∙ e) in f.0 ∙ end-other scene passed path q (h.path_is ∙ ap (λ x. end_of scene (way t) x) same ∙ ap (λ s. end_of scene s path) (sym p)) h.other,
    λ c. let r = other-end scene passed path q (sym f.0 ∙ c) in record { end = path; at = (text, e, subst AreShort p short); path_is = r.0 ∙ ap (λ s. end_of scene s path) p; other = r.1 },
  );
  leaves = λ q. (
    λ h. subst (λ l. Contains l q) (sym f.1) (left-contains (walked scene passed) q (subst (λ s. Contains (walked scene s) (record { path = q; left = true })) (sym p) h.2)),
    λ h. (path, (text, e, subst AreShort p short), subst (λ s. Contains (walked scene s) (record { path = q; left = true })) p (contains-left (walked scene passed) q (subst (λ l. Contains l q) f.1 h))),
  );
}

-- before the first step
pub goes-first : (scene : Scene) (all : List Step) (path : List ℕ) (left : List (List ℕ)) → left ≡ [] → GoesOn scene all path left 0
goes-first scene all path left e = (refl, sym (ap (λ (front : List (List ℕ)). front ++ left_of (walked scene all)) e))
