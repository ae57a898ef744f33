-- The cutting of the bytes changes nothing.
use Rattle.std.proofs.Common.{◌≡◌, ℕ, List, [], ◌∷◌, ◌++◌, refl, sym, ap, ◌∙◌}
use Rattle.rx_h2conn.specs.Session.{Reading}
use Rattle.rx_h2conn.specs.Steps.{fed, byte}
use Rattle.rx_h2conn.specs.History.{Call, Feeds, Starves, Hands, Takes, Opens, Sends, Resets, Told, after, tells, run, answers, single, bytewise, SameRuns}

pub run_single : (r : Reading) (piece : List ℕ) (cs : List Call) → run r (single piece cs) ≡ run (fed r piece) cs
run_single r [] cs = refl
run_single r (b ∷ piece) cs = run_single (byte r b) piece cs

pub answers_single : (r : Reading) (piece : List ℕ) (cs : List Call) → answers r (single piece cs) ≡ answers (fed r piece) cs
answers_single r [] cs = refl
answers_single r (b ∷ piece) cs = answers_single (byte r b) piece cs

pub run_bytewise : (r : Reading) (cs : List Call) → run r (bytewise cs) ≡ run r cs
run_bytewise r [] = refl
run_bytewise r (Feeds piece ∷ cs) = run_single r piece (bytewise cs) ∙ run_bytewise (fed r piece) cs
run_bytewise r (Starves ∷ cs) = run_bytewise (after r Starves) cs
run_bytewise r (Hands ∷ cs) = run_bytewise (after r Hands) cs
run_bytewise r (Takes ∷ cs) = run_bytewise (after r Takes) cs
run_bytewise r (Opens fields last ∷ cs) = run_bytewise (after r (Opens fields last)) cs
run_bytewise r (Sends id piece last ∷ cs) = run_bytewise (after r (Sends id piece last)) cs
run_bytewise r (Resets id code ∷ cs) = run_bytewise (after r (Resets id code)) cs

pub tells_more : (r : Reading) (c : Call) (xs ys : List Told) → xs ≡ ys → tells r c ++ xs ≡ tells r c ++ ys
tells_more r c xs ys e = ap (λ (x : List Told). tells r c ++ x) e

pub answers_bytewise : (r : Reading) (cs : List Call) → answers r (bytewise cs) ≡ answers r cs
answers_bytewise r [] = refl
answers_bytewise r (Feeds piece ∷ cs) = answers_single r piece (bytewise cs) ∙ answers_bytewise (fed r piece) cs
answers_bytewise r (Starves ∷ cs) = answers_bytewise (after r Starves) cs
answers_bytewise r (Hands ∷ cs) = tells_more r Hands _ _ (answers_bytewise (after r Hands) cs)
answers_bytewise r (Takes ∷ cs) = tells_more r Takes _ _ (answers_bytewise (after r Takes) cs)
answers_bytewise r (Opens fields last ∷ cs) = tells_more r (Opens fields last) _ _ (answers_bytewise (after r (Opens fields last)) cs)
answers_bytewise r (Sends id piece last ∷ cs) = tells_more r (Sends id piece last) _ _ (answers_bytewise (after r (Sends id piece last)) cs)
answers_bytewise r (Resets id code ∷ cs) = tells_more r (Resets id code) _ _ (answers_bytewise (after r (Resets id code)) cs)

pub any_state : (r : Reading) (a b : List Call) → bytewise a ≡ bytewise b → run r a ≡ run r b
any_state r a b e = sym (run_bytewise r a) ∙ (ap (run r) e ∙ run_bytewise r b)

pub any_answers : (r : Reading) (a b : List Call) → bytewise a ≡ bytewise b → answers r a ≡ answers r b
any_answers r a b e = sym (answers_bytewise r a) ∙ (ap (answers r) e ∙ answers_bytewise r b)

pub any_runs : (r : Reading) (a b : List Call) → bytewise a ≡ bytewise b → SameRuns r a b
any_runs r a b e = record { answers = any_answers r a b e; after = any_state r a b e }
