-- Packed numbers checked one after the other.
use Rattle.std.proofs.Common.{◌≡◌, ℕ, zero, suc, ◌+◌, ◌<◌, ◌≤◌, ◌==◌, true, false, List, length, Ok, Err, refl, arith, eq-eqb}
use Rattle.std.proofs.lemmas.Bool.{ne_eqb}
use Rattle.rx_wire.specs.declared.faults.WireFault.{WireFault}
use Rattle.rx_wire.specs.Varints.{varint_at}
use Rattle.rx_session.specs.Packed.{numbers_checked}

-- the numbers from here on are checked as all of them are
pub record IsCheckingNumbers (packed : List ℕ) (at : ℕ) : Type 0 where
  pub most : ℕ
  pub within : at ≤ length packed
  pub enough : length packed ≤ at + most
  pub rest : numbers_checked most packed at ≡ numbers_checked (length packed) packed 0

pub numbers_start : (packed : List ℕ) → IsCheckingNumbers packed 0
numbers_start packed = record { most = length packed; within = omega arith; enough = omega arith; rest = refl }

goes_on_at : (packed : List ℕ) (at most n end : ℕ) → at < length packed → length packed ≤ at + most → numbers_checked most packed at ≡ numbers_checked (length packed) packed 0
    → varint_at packed at ≡ Ok (n, end) → at < end → end ≤ length packed → IsCheckingNumbers packed end
unfolding numbers_checked
goes_on_at packed at zero n end lt enough rest read grows within = absurd (omega arith)
goes_on_at packed at (suc most) n end lt enough rest read grows within =
    let test : (at == length packed) ≡ false = ne_eqb at (length packed) (λ e. omega arith) in
    record { most = most; within = within; enough = omega arith; rest = rw (test, read) at rest }

pub numbers_go_on : (packed : List ℕ) (at n end : ℕ) → IsCheckingNumbers packed at → at < length packed → varint_at packed at ≡ Ok (n, end) → at < end → end ≤ length packed
    → IsCheckingNumbers packed end
numbers_go_on packed at n end r lt read grows within = goes_on_at packed at r.most n end lt r.enough r.rest read grows within

refused_at : (packed : List ℕ) (at most : ℕ) (fault : WireFault) → at < length packed → length packed ≤ at + most → numbers_checked most packed at ≡ numbers_checked (length packed) packed 0
    → varint_at packed at ≡ Err fault → Err fault ≡ numbers_checked (length packed) packed 0
unfolding numbers_checked
refused_at packed at zero fault lt enough rest read = absurd (omega arith)
refused_at packed at (suc most) fault lt enough rest read =
    let test : (at == length packed) ≡ false = ne_eqb at (length packed) (λ e. omega arith) in
    rw (test, read) at rest

pub number_is_refused : (packed : List ℕ) (at : ℕ) (fault : WireFault) → IsCheckingNumbers packed at → at < length packed → varint_at packed at ≡ Err fault
    → Err fault ≡ numbers_checked (length packed) packed 0
number_is_refused packed at fault r lt read = refused_at packed at r.most fault lt r.enough r.rest read

ends_at : (packed : List ℕ) (at most : ℕ) → numbers_checked most packed at ≡ numbers_checked (length packed) packed 0 → at ≡ length packed → Ok tt ≡ numbers_checked (length packed) packed 0
unfolding numbers_checked
ends_at packed at zero rest e = rest
ends_at packed at (suc most) rest e =
    let test : (at == length packed) ≡ true = eq-eqb at (length packed) e in
    rw test at rest

pub numbers_end : (packed : List ℕ) (at : ℕ) → IsCheckingNumbers packed at → length packed ≤ at → Ok tt ≡ numbers_checked (length packed) packed 0
numbers_end packed at r le = let within = r.within in ends_at packed at r.most r.rest (omega arith)
