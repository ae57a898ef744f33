-- Faults of calls read one after the other.
use Rattle.std.proofs.Common.{◌≡◌, ℕ, zero, suc, ◌+◌, ◌<◌, ◌≤◌, ◌==◌, true, false, List, [], ◌∷◌, ◌++◌, length, Result, Ok, Err, refl, sym, ap, ◌∙◌, arith, eq-eqb, append_assoc}
use Rattle.std.proofs.lemmas.Bool.{ne_eqb}
use Rattle.std.proofs.lemmas.List.{append-nil}
use Rattle.rx_base.specs.Results.{◌>>=◌}
use Rattle.rx_world.specs.declared.call_faults.CallFault.{CallFault}
use Rattle.rx_session.specs.declared.reply_fault.ReplyFault.{ReplyFault}
use Rattle.rx_session.specs.CallFaults.{fault_at, faults_from, faults_in}

-- these before the others
abbrev onto : List CallFault → Result (List CallFault) ReplyFault → Result (List CallFault) ReplyFault
onto done others = others >>= (λ faults. Ok (done ++ faults))

-- the faults so far and those from here on are all
pub record IsReading (packed : List ℕ) (at : ℕ) (faults : List CallFault) : Type 0 where
  pub most : ℕ
  pub within : at ≤ length packed
  pub enough : length packed ≤ at + most
  pub rest : onto faults (faults_from most packed at) ≡ faults_in packed

onto-none : (others : Result (List CallFault) ReplyFault) → onto [] others ≡ others
onto-none (Ok faults) = refl
onto-none (Err fault) = refl

onto-more : (done : List CallFault) (fault : CallFault) (others : Result (List CallFault) ReplyFault) → onto done (others >>= (λ faults. Ok (fault ∷ faults))) ≡ onto (done ++ fault ∷ []) others
onto-more done fault (Ok faults) = ap Ok (sym (append_assoc done (fault ∷ []) faults))
onto-more done fault (Err why) = refl

pub reading_starts : (packed : List ℕ) → IsReading packed 0 []
unfolding faults_in
reading_starts packed = record { most = length packed; within = omega arith; enough = omega arith; rest = onto-none (faults_from (length packed) packed 0) }

goes_on_at : (packed : List ℕ) (at most : ℕ) (faults : List CallFault) (fault : CallFault) (end : ℕ) → at < length packed → length packed ≤ at + most
    → onto faults (faults_from most packed at) ≡ faults_in packed → fault_at packed at ≡ Ok (fault, end) → at < end → end ≤ length packed → IsReading packed end (faults ++ fault ∷ [])
unfolding faults_from
goes_on_at packed at zero faults fault end lt enough rest read grows within = absurd (omega arith)
goes_on_at packed at (suc most) faults fault end lt enough rest read grows within =
    let test : (at == length packed) ≡ false = ne_eqb at (length packed) (λ e. omega arith) in
    record {
      most = most;
      within = within;
      enough = omega arith;
      rest = sym (onto-more faults fault (faults_from most packed end)) ∙ (rw (test, read) at rest);
    }

pub reading_goes_on : (packed : List ℕ) (at : ℕ) (faults : List CallFault) (fault : CallFault) (end : ℕ) → IsReading packed at faults → at < length packed
    → fault_at packed at ≡ Ok (fault, end) → at < end → end ≤ length packed → IsReading packed end (faults ++ fault ∷ [])
reading_goes_on packed at faults fault end r lt read grows within = goes_on_at packed at r.most faults fault end lt r.enough r.rest read grows within

refused_at : (packed : List ℕ) (at most : ℕ) (faults : List CallFault) (why : ReplyFault) → at < length packed → length packed ≤ at + most
    → onto faults (faults_from most packed at) ≡ faults_in packed → fault_at packed at ≡ Err why → faults_in packed ≡ Err why
unfolding faults_from
refused_at packed at zero faults why lt enough rest read = absurd (omega arith)
refused_at packed at (suc most) faults why lt enough rest read =
    let test : (at == length packed) ≡ false = ne_eqb at (length packed) (λ e. omega arith) in
    sym (rw (test, read) at rest)

pub is_refused : (packed : List ℕ) (at : ℕ) (faults : List CallFault) (why : ReplyFault) → IsReading packed at faults → at < length packed → fault_at packed at ≡ Err why → faults_in packed ≡ Err why
is_refused packed at faults why r lt read = refused_at packed at r.most faults why lt r.enough r.rest read

ends_at : (packed : List ℕ) (at most : ℕ) (faults : List CallFault) → onto faults (faults_from most packed at) ≡ faults_in packed → at ≡ length packed → faults_in packed ≡ Ok faults
unfolding faults_from
ends_at packed at zero faults rest e = sym rest ∙ ap Ok (append-nil faults)
ends_at packed at (suc most) faults rest e =
    let test : (at == length packed) ≡ true = eq-eqb at (length packed) e in
    sym (rw test at rest) ∙ ap Ok (append-nil faults)

pub reading_ends : (packed : List ℕ) (at : ℕ) (faults : List CallFault) → IsReading packed at faults → length packed ≤ at → faults_in packed ≡ Ok faults
reading_ends packed at faults r le = let within = r.within in ends_at packed at r.most faults r.rest (omega arith)
