use Rattle.std.proofs.Common.{◌≡◌, ℕ, List, refl, true, false}
use Rattle.std.proofs.lemmas.Str.{is_utf8-from_IsUtf8, IsUtf8-from_is_utf8}
use Rattle.std.specs.Str.{IsUtf8, is_utf8}
use Rattle.rx_client.specs.Asking.{settings_in_bytes}
use Rattle.rx_client.proofs.asks.settings_in_bytes.Goals as goal

pub returns-in-Ok : goal.returns-in-Ok
unfolding settings_in_bytes
returns-in-Ok c =
    let known = is_utf8-from_IsUtf8 c.args.bytes.now c.in-Ok.ensures.cases.1 in
    rw (known, ← c.in-Ok.ensures.cases.0) c.settings_in_file.ensures

not_utf8 : (bytes : List ℕ) → ¬ (IsUtf8 bytes) → is_utf8 bytes ≡ false
not_utf8 bytes h =
    elim (is_utf8 bytes) as (λ b. is_utf8 bytes ≡ b → is_utf8 bytes ≡ false) [ true ↦ λ e. absurd (h (IsUtf8-from_is_utf8 bytes e)) | false ↦ λ e. e ] refl

pub returns-in_ok-copy_of-in-Err : goal.returns-in_ok-copy_of-in-Err
unfolding settings_in_bytes
returns-in_ok-copy_of-in-Err c other =
    let unread : is_utf8 c.args.bytes.now ≡ false = not_utf8 c.args.bytes.now c.in-Err.ensures.cases.0 in
    rw (unread, c.in_ok-copy_of-in-Err.ensures) refl
