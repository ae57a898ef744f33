-- What is written is read back.
use Rattle.std.proofs.Common.{◌≡◌, ℕ, ◌+◌, ◌-◌, ◌*◌, ◌/◌, ◌%◌, ◌<◌, ◌^◌, List, ◌++◌, length, take, drop, refl, sym, ap, subst, ◌∙◌, Result, Ok, Err, OnOk, arith, length-append}
use Rattle.std.proofs.Math.Seq.{take-append_seam, drop-append_seam}
use Rattle.rx_h2frame.specs.declared.frame.FrameFault.{FrameFault}
use Rattle.std.specs.declared.alloc.AllocError.{AllocError}
use Rattle.rx_h2frame.specs.Head.{Header, header_of, pad_length_size, priority_size}
use Rattle.rx_h2frame.specs.Frame.{Seen, Complete, padding, payload_of}
use Rattle.rx_h2frame.specs.Write.{Out, out_bytes, header_out, IsProper, ReadsBack}
use Rattle.rx_h2frame.proofs.NextLemmas.{next_long}
use Rattle.rx_h2frame.proofs.SoundLemmas.{fitting_is_right, payload_whole}

pub three_read : (n : ℕ) → (n / 65536 * 256 + n / 256 % 256) * 256 + n % 256 ≡ n
three_read n = omega arith

pub four_read : (n : ℕ) → n < 2 ^ 31 → (((n / 16777216 % 128) * 256 + n / 65536 % 256) * 256 + n / 256 % 256) * 256 + n % 256 ≡ n
four_read n small = omega (arith, small)

pub header_read : (largest : ℕ) (o : Out) (more : List ℕ) → o.stream < 2 ^ 31 → IsProper largest o → header_of (out_bytes o ++ more) ≡ header_out o
header_read largest o more small p =
    let size = three_read (length o.body) in
    let stream = four_read o.stream small in
    let kind = p.kind in
    cc

pub body_read : (o : Out) (more : List ℕ) → padding (header_out o) (o.body ++ more) ≡ 0 → pad_length_size (header_out o) + priority_size (header_out o) ≡ 0 → take (length o.body - (pad_length_size (header_out o) + priority_size (header_out o) + padding (header_out o) (o.body ++ more))) (drop (pad_length_size (header_out o) + priority_size (header_out o)) (o.body ++ more)) ≡ o.body
body_read o more none front =
    let all : length o.body - (0 + 0) ≡ length o.body = omega arith in
    rw (front, none) (rw all (take-append_seam o.body more))

pub reads_back : (largest : ℕ) (o : Out) (more : List ℕ) → o.stream < 2 ^ 31 → ReadsBack largest o (out_bytes o ++ more)
reads_back largest o more small p =
    let front : pad_length_size (header_out o) + priority_size (header_out o) ≡ 0 = rw (p.padding) (rw (p.priority) refl) in
    let none : padding (header_out o) (o.body ++ more) ≡ 0 = rw (p.padding) refl in
    next_long largest (out_bytes o ++ more) (omega arith)
    ∙ (ap (λ (h : Header). payload_of largest h (o.body ++ more)) (header_read largest o more small p)
    ∙ (payload_whole largest (header_out o) (o.body ++ more) p.size p.stream (fitting_is_right (header_out o) (o.body ++ more) (omega (arith, front, none))) (omega (arith, length-append o.body more))
    ∙ ap (λ (b : List ℕ). let w : Result Seen FrameFault = Ok (Complete (record { kind = o.kind; flags = o.flags; stream = o.stream; body = b; size = length o.body })) in w) (body_read o more none front)))

-- the same behind what was there
pub reads_back_behind : (old new : List ℕ) (o : Out) (r : Result (Unit {0}) AllocError) → o.stream < 2 ^ 31 → OnOk r (new ≡ old ++ out_bytes o) → OnOk r ((largest : ℕ) (more : List ℕ) → ReadsBack largest o (drop (length old) new ++ more))
reads_back_behind old new o (Ok u) small h =
    λ largest more. subst (λ (x : List ℕ). ReadsBack largest o (x ++ more)) (sym (ap (drop (length old)) h ∙ drop-append_seam old (out_bytes o))) (reads_back largest o more small)
reads_back_behind old new o (Err e) small h = tt
