-- What was seen, read of its message.
use Rattle.std.proofs.Common.{◌≡◌, ◌≢◌, inl, inr, ℕ, ◌+◌, ◌*◌, ◌/◌, ◌%◌, ◌^◌, ◌==◌, Bool, true, false, Option, None, Some, Result, Ok, refl, sym, ◌∙◌, arith, eq-eqb}
use Rattle.std.specs.Prelude.{IsNone, IsSome, is_some}
use Rattle.std.proofs.lemmas.Bool.{and_parts, eqb-true}
use Rattle.rx_base.specs.declared.digests.Digest.{Digest}
use Rattle.rx_codec.specs.Contents.{number_of_truth}
use Rattle.rx_world.specs.declared.looks.ChangedInput.{ChangedInput}
use Rattle.rx_world.specs.declared.looks.Look.{Look}
use Rattle.rx_world.specs.declared.looks.Look.TheVariants as looks
use Rattle.rx_world.specs.declared.looks.Seen.{Seen}
use Rattle.rx_session.specs.declared.reply_fault.ReplyFault.{ReplyFault}
use Rattle.rx_session.specs.declared.seen_message.SeenMessage.{SeenMessage}
use Rattle.rx_session.specs.Seen.{DigestsFit, changed_of, digests_fit, file_of, is_no_file, look_message, look_of, same_look, seen_message, seen_of}
use Rattle.rx_session.specs.Typed.{IsOwn}

mark_again : (mark : ℕ) → mark / 2 ^ 64 * 2 ^ 64 + mark % 2 ^ 64 ≡ mark
mark_again mark = omega arith

look_again : (look : Look) (digest : Option Digest) → look_of (record (look_message look) { digest = digest }) ≡ Ok look
unfolding look_of file_of is_no_file
look_again looks.Absent digest = refl
look_again (looks.File stamp true) digest = rw (mark_again stamp.mark) refl
look_again (looks.File stamp false) digest = rw (mark_again stamp.mark) refl
look_again looks.Dir digest = refl
look_again looks.Other digest = refl

pub seen_again : (seen : Seen) → seen_of (seen_message seen) ≡ Ok seen
unfolding seen_of
seen_again seen = rw (look_again seen.look seen.digest) refl

-- ---- looks that are equal

same_again : (x y : SeenMessage) → same_look x y ≡ true → look_of x ≡ look_of y
unfolding same_look look_of file_of is_no_file
same_again x y e =
    let kind = and_parts (x.kind == y.kind) _ e in
    let size = and_parts (x.size == y.size) _ kind.1 in
    let high = and_parts (x.mark_high == y.mark_high) _ size.1 in
    let low = and_parts (x.mark_low == y.mark_low) _ high.1 in
    rw (eqb-true x.kind y.kind kind.0, eqb-true x.size y.size size.0, eqb-true x.mark_high y.mark_high high.0, eqb-true x.mark_low y.mark_low low.0, eqb-true x.executable y.executable low.1) refl

itself : (look : Look) (digest other : Option Digest) → same_look (record (look_message look) { digest = digest }) (record (look_message look) { digest = other }) ≡ true
unfolding same_look
itself looks.Absent digest other = refl
itself (looks.File stamp executable) digest other =
    rw (
      eq-eqb stamp.size stamp.size refl,
      eq-eqb (stamp.mark / 2 ^ 64) (stamp.mark / 2 ^ 64) refl,
      eq-eqb (stamp.mark % 2 ^ 64) (stamp.mark % 2 ^ 64) refl,
      eq-eqb (number_of_truth executable) (number_of_truth executable) refl,
    ) refl
itself looks.Dir digest other = refl
itself looks.Other digest other = refl

same : (x y : Seen) → x.look ≡ y.look → same_look (seen_message x) (seen_message y) ≡ true
same x y e = rw e (itself y.look x.digest y.digest)

abbrev done : Look → Result Look ReplyFault
done look = Ok look

ok_is : (x y : Look) → done x ≡ done y → x ≡ y
ok_is x y e = cc

other_at : (x y : Seen) (t : Bool) → same_look (seen_message x) (seen_message y) ≡ t → x.look ≢ y.look → t ≡ false
other_at x y true e differ = absurd (differ (ok_is x.look y.look (sym (look_again x.look x.digest) ∙ same_again (seen_message x) (seen_message y) e ∙ look_again y.look y.digest)))
other_at x y false e differ = refl

some_is : (digest : Option Digest) → IsSome digest → is_some digest ≡ true
some_is (Some digest) h = refl
some_is None h = absurd (cc h)

none_is : (digest : Option Digest) → IsNone digest → is_some digest ≡ false
none_is None h = refl
none_is (Some digest) h = absurd (cc h)

fits : (input : ChangedInput) → DigestsFit input → digests_fit (seen_message input.first) (seen_message input.second) ≡ true
unfolding digests_fit
fits input (inl h) = rw (same input.first input.second h.0, some_is input.first.digest h.1, some_is input.second.digest h.2) refl
fits input (inr h) =
    let other = other_at input.first input.second (same_look (seen_message input.first) (seen_message input.second)) refl h.0 in
    rw (other, none_is input.first.digest h.1, none_is input.second.digest h.2) refl

pub changed_again : (input : ChangedInput) → IsOwn input.path → DigestsFit input → changed_of input.path (Some (seen_message input.first)) (Some (seen_message input.second)) ≡ Ok input
unfolding changed_of
changed_again input own h = rw (own, seen_again input.first, seen_again input.second, fits input h) refl
