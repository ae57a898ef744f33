-- Loops that write frames.
use Rattle.std.proofs.Common.{◌≡◌, ℕ, ◌+◌, ◌<◌, ◌≤◌, zero, suc, List, [], ◌∷◌, ◌++◌, length, take, drop, refl, sym, ap, ◌∙◌, arith, length-drop, append_assoc, append-nil}
use Rattle.std.proofs.lemmas.Bool.{lt-ltb, le-ltb}
use Rattle.rx_h2frame.specs.declared.kind.Kind.{Kind}
use Rattle.rx_h2frame.specs.Write.{Out, out_bytes}
use Rattle.rx_h2conn.specs.declared.output.Framing.{Framing}
use Rattle.rx_h2conn.specs.Emitted.{bytes_of}
use Rattle.rx_h2conn.specs.Output.{frames_of}

-- a frame that isn't the last, and the last one
abbrev pub front_frame : Kind → ℕ → ℕ → List ℕ → Out
front_frame kind flags id bytes = record { kind = kind; flags = flags; stream = id; body = take 16384 bytes }

abbrev pub last_frame : Kind → ℕ → ℕ → List ℕ → Out
last_frame kind flags id bytes = record { kind = kind; flags = flags; stream = id; body = bytes }

pub frames_of-long : (n : ℕ) (kind later : Kind) (flags ending id : ℕ) (left : List ℕ) → 16384 < length left → frames_of (suc n) kind later flags ending id left ≡ front_frame kind flags id left ∷ frames_of n later later 0 ending id (drop 16384 left)
unfolding frames_of
frames_of-long n kind later flags ending id left h = rw (lt-ltb 16384 (length left) h) refl

pub frames_of-short : (n : ℕ) (kind later : Kind) (flags ending id : ℕ) (left : List ℕ) → length left ≤ 16384 → frames_of (suc n) kind later flags ending id left ≡ last_frame kind (flags + ending) id left ∷ []
unfolding frames_of
frames_of-short n kind later flags ending id left h = rw (le-ltb 16384 (length left) h) refl

-- what a framing makes of bytes
abbrev pub framed : Framing → List ℕ → List Out
framed f bytes = frames_of (length bytes + 1) f.first f.later f.flags f.ending f.stream bytes

-- what is written, and what is still to be written, are the frames
pub record IsWriting (start now : List ℕ) (f : Framing) (kind : Kind) (flags : ℕ) (bytes left : List ℕ) : Type 0 where
  pub front : (more : List ℕ) × (now ≡ start ++ more)
  pub most : ℕ
  pub enough : length left < most
  pub whole : now ++ bytes_of (frames_of most kind f.later flags f.ending f.stream left) ≡ start ++ bytes_of (framed f bytes)
  pub small : flags + f.ending < 256

pub writing_starts : (start : List ℕ) (f : Framing) (bytes : List ℕ) → f.flags + f.ending < 256 → IsWriting start start f f.first f.flags bytes bytes
writing_starts start f bytes small = record { front = ([], sym (append-nil start)); most = length bytes + 1; enough = omega arith; whole = refl; small = small }

pub writing_by : (start now next : List ℕ) (f : Framing) (kind : Kind) (flags : ℕ) (bytes left : List ℕ) (most : ℕ) → ((more : List ℕ) × (now ≡ start ++ more)) → length left < most → now ++ bytes_of (frames_of most kind f.later flags f.ending f.stream left) ≡ start ++ bytes_of (framed f bytes) → flags + f.ending < 256 → 16384 < length left → next ≡ now ++ out_bytes (front_frame kind flags f.stream left) → IsWriting start next f f.later 0 bytes (drop 16384 left)
writing_by start now next f kind flags bytes left zero front enough whole small long is = absurd (omega arith)
writing_by start now next f kind flags bytes left (suc k) front enough whole small long is =
    let o = out_bytes (front_frame kind flags f.stream left) in
    record {
      front = (front.0 ++ o, is ∙ (ap (λ (x : List ℕ). x ++ o) front.1 ∙ append_assoc start front.0 o));
      most = k;
      enough = omega (arith, enough, long, length-drop 16384 left);
      whole =
          ap (λ (x : List ℕ). x ++ bytes_of (frames_of k f.later f.later 0 f.ending f.stream (drop 16384 left))) is
          ∙ (append_assoc now o (bytes_of (frames_of k f.later f.later 0 f.ending f.stream (drop 16384 left)))
          ∙ (ap (λ (x : List Out). now ++ bytes_of x) (sym (frames_of-long k kind f.later flags f.ending f.stream left long)) ∙ whole));
      small = omega (arith, small);
    }

pub writing_goes_on : (start now next : List ℕ) (f : Framing) (kind : Kind) (flags : ℕ) (bytes left front back : List ℕ) → IsWriting start now f kind flags bytes left → 16384 < length left → front ≡ take 16384 left → back ≡ drop 16384 left → next ≡ now ++ out_bytes (last_frame kind flags f.stream front) → IsWriting start next f f.later 0 bytes back
writing_goes_on start now next f kind flags bytes left front back h long front_is back_is is =
    let written : next ≡ now ++ out_bytes (front_frame kind flags f.stream left) = is ∙ ap (λ (x : List ℕ). now ++ out_bytes (last_frame kind flags f.stream x)) front_is in
    rw back_is (writing_by start now next f kind flags bytes left h.most h.front h.enough h.whole h.small long written)

pub writing_end_by : (now whole : List ℕ) (kind later : Kind) (flags ending id : ℕ) (left : List ℕ) (most : ℕ) → length left < most → now ++ bytes_of (frames_of most kind later flags ending id left) ≡ whole → length left ≤ 16384 → now ++ out_bytes (last_frame kind (flags + ending) id left) ≡ whole
writing_end_by now whole kind later flags ending id left zero enough e short = absurd (omega arith)
writing_end_by now whole kind later flags ending id left (suc k) enough e short =
    let o = out_bytes (last_frame kind (flags + ending) id left) in
    ap (λ (x : List ℕ). now ++ x) (sym (append-nil o)) ∙ (sym (ap (λ (x : List Out). now ++ bytes_of x) (frames_of-short k kind later flags ending id left short)) ∙ e)

pub writing_ends : (start now next : List ℕ) (f : Framing) (kind : Kind) (flags : ℕ) (bytes left : List ℕ) → IsWriting start now f kind flags bytes left → length left ≤ 16384 → next ≡ now ++ out_bytes (last_frame kind (flags + f.ending) f.stream left) → next ≡ start ++ bytes_of (framed f bytes)
writing_ends start now next f kind flags bytes left h short is = is ∙ writing_end_by now _ kind f.later flags f.ending f.stream left h.most h.enough h.whole short
