-- A directory that a way leaves again is one.
use Rattle.std.proofs.Common.{◌≡◌, ◌≢◌, ℕ, ◌==◌, inl, inr, Bool, true, false, cond, List, [], ◌∷◌, length, refl, subst, arith, true≢false}
use Rattle.std.proofs.lemmas.Bool.Decides.{nat_tests}
use Rattle.rx_world.specs.declared.looks.Look.{Look}
use Rattle.rx_world.specs.declared.looks.Look.TheVariants.{Dir}
use Rattle.rx_base.proofs.Members.{Among, Among-from_contains}
use Rattle.rx_reach.specs.declared.candidates.Step.{Step}
use Rattle.rx_reach.specs.Candidates.{Leaves, Try, is_dir, is_passable, step_look, walked, way}
use Rattle.rx_reach.specs.Scenes.{Scene}

passed_case : (scene : Scene) (b : Bool) (step q : Step) (rest : List Step) → is_passable scene step ≡ b → (Among q rest → is_passable scene q ≡ true) → Among q (cond b (step ∷ rest) []) → is_passable scene q ≡ true
passed_case scene true step q rest e f (inl is) = subst (λ x. is_passable scene x ≡ true) is e
passed_case scene true step q rest e f (inr a) = f a
passed_case scene false step q rest e f a = absurd a

walked-passes : (scene : Scene) (steps : List Step) (q : Step) → Among q (walked scene steps) → is_passable scene q ≡ true
walked-passes scene [] q a = absurd a
walked-passes scene (step ∷ steps) q a = passed_case scene (is_passable scene step) step q (walked scene steps) refl (walked-passes scene steps q) a

some-length : (x : ℕ) (xs : List ℕ) → (length (x ∷ xs) == 0) ≡ false
some-length x xs = grind (arith, nat_tests)

look-case : (b : Bool) (look : Look) → b ≡ false → is_dir (cond b Dir look) ≡ true → is_dir look ≡ true
look-case false look e t = t
look-case true look e t = absurd (true≢false e)

below_root_look : (scene : Scene) (path : List ℕ) → path ≢ [] → is_dir (step_look scene path) ≡ true → is_dir (scene.look path) ≡ true
below_root_look scene [] f t = absurd (f refl)
below_root_look scene (x ∷ xs) f t = look-case (length (x ∷ xs) == 0) (scene.look (x ∷ xs)) (some-length x xs) t

pub left-dir : (scene : Scene) (t : Try) (path : List ℕ) → path ≢ [] → Leaves scene t path → is_dir (scene.look path) ≡ true
left-dir scene t path some left =
    let step : Step = record { path = path; left = true } in
    below_root_look scene path some (walked-passes scene (way t) step (Among-from_contains step (walked scene (way t)) left.2))
