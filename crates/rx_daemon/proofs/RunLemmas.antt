-- One session more.
use Rattle.std.proofs.Common.{◌≡◌, ℕ, ◌+◌, List, [], ◌∷◌, ◌++◌, refl, ap, sym, ◌∙◌, append_assoc, length, arith, subst, add-zero}
use Rattle.std.specs.Prelude.{Option, None, Some}
use Rattle.rx_board.specs.declared.journal.Entry.{Entry}
use Rattle.rx_base.specs.Told.{Told}
use Rattle.rx_engine.specs.declared.transcripts.Transcript.{Transcript}
use Rattle.rx_daemon.specs.Fronts.{GivesAll, GivesNext}
use Rattle.rx_daemon.specs.Proxy.{Served, Runs}

served-more : {D : Type 0} (S : D → D → List Entry → List Entry → ℕ → ℕ → ℕ → Transcript → Type 0) (n : ℕ) (old mid new : List Entry) (pb pm pn : ℕ) (ds es : List D) (ts : List Transcript) (d e : D) (t : Transcript) → Served S n old mid pb pm ds es ts → S d e mid new pm pn (n + length ts) t → Served S n old new pb pn (ds ++ d ∷ []) (es ++ e ∷ []) (ts ++ t ∷ [])
served-more S n old mid new pb pm pn [] [] [] d e t h k = (new, pn, rw (h.0, h.1, add-zero) at k, (refl, refl))
served-more S n old mid new pb pm pn (x ∷ ds) (y ∷ es) (z ∷ ts) d e t h k =
    let q : n + length (z ∷ ts) ≡ n + 1 + length ts = omega arith in
    (h.0, h.1, h.2, served-more S (n + 1) h.0 mid new h.1 pm pn ds es ts d e t h.3 (subst (λ m. S d e mid new pm pn m t) q k))
served-more S n old mid new pb pm pn [] (y ∷ es) ts d e t h k = absurd h
served-more S n old mid new pb pm pn [] [] (z ∷ ts) d e t h k = absurd h
served-more S n old mid new pb pm pn (x ∷ ds) [] ts d e t h k = absurd h
served-more S n old mid new pb pm pn (x ∷ ds) (y ∷ es) [] d e t h k = absurd h

pub gives-more : {D : Type 0} (a b c : Option (List D)) (ds : List D) (d : D) → GivesAll a b ds → GivesNext b c (Some d) → GivesAll a c (ds ++ d ∷ [])
gives-more None b c ds d h k = tt
gives-more (Some xs) None c ds d h k = absurd h
gives-more (Some xs) (Some ys) None ds d h k = absurd k
gives-more (Some xs) (Some ys) (Some zs) ds d h k = h ∙ ap (λ s. ds ++ s) k ∙ sym (append_assoc ds (d ∷ []) zs)

pub runs-more : {D : Type 0} (a b c : Option (List D)) (S : D → D → List Entry → List Entry → ℕ → ℕ → ℕ → Transcript → Type 0) (old mid new : List Entry) (pb pm pn : ℕ) (es : List D) (ts : List Transcript) (d e : D) (t : Transcript) (number : ℕ) → Runs a b S old mid pb pm es ts → GivesNext b c (Some d) → number ≡ 1 + length ts → S d e mid new pm pn number t → Runs a c S old new pb pn (es ++ e ∷ []) (ts ++ t ∷ [])
runs-more a b c S old mid new pb pm pn es ts d e t number h g q k = record {
  left = h.left ++ d ∷ [];
  given = gives-more a b c h.left d h.given g;
  served = served-more S 1 old mid new pb pm pn h.left es ts d e t h.served (subst (λ m. S d e mid new pm pn m t) q k);
}

-- nothing left it so far
pub gives-none : {D : Type 0} (a : Option (List D)) → GivesAll a a []
gives-none None = tt
gives-none (Some xs) = refl

pub runs-none : {D : Type 0} (a : Option (List D)) (S : D → D → List Entry → List Entry → ℕ → ℕ → ℕ → Transcript → Type 0) (old : List Entry) (pb : ℕ) → Runs a a S old old pb pb [] []
runs-none None S old pb = record { left = []; given = tt; served = (refl, refl) }
runs-none (Some xs) S old pb = record { left = []; given = refl; served = (refl, refl) }

pub runs-last : {D : Type 0} (a b c : Option (List D)) (S : D → D → List Entry → List Entry → ℕ → ℕ → ℕ → Transcript → Type 0) (old new : List Entry) (pb pn : ℕ) (es : List D) (ts : List Transcript) → Runs a b S old new pb pn es ts → GivesNext b c None → Runs a c S old new pb pn es ts
runs-last None b c S old new pb pn es ts h g = record { left = h.left; given = tt; served = h.served }
runs-last (Some xs) None c S old new pb pn es ts h g = absurd h.given
runs-last (Some xs) (Some ys) None S old new pb pn es ts h g = absurd g
runs-last (Some xs) (Some ys) (Some zs) S old new pb pn es ts h g = record {
  left = h.left;
  given = h.given ∙ ap (λ s. h.left ++ s) (g.0 ∙ sym g.1);
  served = h.served;
}

-- where the front has no more, it tells so
pub stop-ended : {D : Type 0} (a b c : Option (List D)) (left : List D) → GivesAll a b left → GivesNext b c None → Told a c (λ x y. y ≡ [])
stop-ended None b c left g n = tt
stop-ended (Some xs) None c left g n = absurd g
stop-ended (Some xs) (Some ys) None left g n = absurd n
stop-ended (Some xs) (Some ys) (Some zs) left g n = n.1
