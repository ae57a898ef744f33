-- What the fields' rules tell of a message that meets them.
use Rattle.std.proofs.Common.{◌≡◌, ℕ, ◌<◌, ◌≤◌, Bool, true, false, Option, None, Some, refl, arith}
use Rattle.std.specs.Prelude.{not, nat_le, if◌then◌else◌}
use Rattle.std.proofs.lemmas.Bool.{and_parts, leb-true}
use Rattle.rx_session.specs.declared.raw_request.RawRequest.{RawRequest}
use Rattle.rx_session.specs.Rules.{bad_field, bad_last_field, directory_holds, environment_holds, is_within, outputs_hold, paths_hold, platform_holds, words_hold}

-- this number, unless the test holds
abbrev unless : Bool → ℕ → Option ℕ → Option ℕ
unless test number rest = if not test then Some number else rest

fourth_holds : (a b c d : Bool) (rest : Option ℕ) → unless a 11 (unless b 12 (unless c 13 (unless d 14 rest))) ≡ None → d ≡ true
fourth_holds true true true true rest e = refl
fourth_holds true true true false rest e = absurd (cc e)
fourth_holds true true false d rest e = absurd (cc e)
fourth_holds true false c d rest e = absurd (cc e)
fourth_holds false b c d rest e = absurd (cc e)

past_eight : (a b c d f g h i : Bool) (rest : Option ℕ)
    → unless a 3 (unless b 4 (unless c 5 (unless d 6 (unless f 7 (unless g 8 (unless h 9 (unless i 10 rest))))))) ≡ None → rest ≡ None
past_eight true true true true true true true true rest e = e
past_eight true true true true true true true false rest e = absurd (cc e)
past_eight true true true true true true false i rest e = absurd (cc e)
past_eight true true true true true false h i rest e = absurd (cc e)
past_eight true true true true false g h i rest e = absurd (cc e)
past_eight true true true false f g h i rest e = absurd (cc e)
past_eight true true false d f g h i rest e = absurd (cc e)
past_eight true false c d f g h i rest e = absurd (cc e)
past_eight false b c d f g h i rest e = absurd (cc e)

eighth_holds : (a b c d f g h i : Bool) (rest : Option ℕ)
    → unless a 3 (unless b 4 (unless c 5 (unless d 6 (unless f 7 (unless g 8 (unless h 9 (unless i 10 rest))))))) ≡ None → i ≡ true
eighth_holds true true true true true true true true rest e = refl
eighth_holds true true true true true true true false rest e = absurd (cc e)
eighth_holds true true true true true true false i rest e = absurd (cc e)
eighth_holds true true true true true false h i rest e = absurd (cc e)
eighth_holds true true true true false g h i rest e = absurd (cc e)
eighth_holds true true true false f g h i rest e = absurd (cc e)
eighth_holds true true false d f g h i rest e = absurd (cc e)
eighth_holds true false c d f g h i rest e = absurd (cc e)
eighth_holds false b c d f g h i rest e = absurd (cc e)

last_fits : (raw : RawRequest) → bad_last_field raw ≡ None → raw.timeout_seconds < 4294967296
unfolding bad_last_field
last_fits raw e =
    let rest = unless (is_within 0 1 raw.in_place) 16 None in
    let holds = fourth_holds (platform_holds raw.platform) (is_within 0 1 raw.accept_cached) (is_within 0 1 raw.watch) (is_within 0 4294967295 raw.timeout_seconds) rest e in
    let parts = and_parts (nat_le 0 raw.timeout_seconds) (nat_le raw.timeout_seconds 4294967295) holds in
    let le : raw.timeout_seconds ≤ 4294967295 = leb-true _ _ parts.1 in
    omega arith

-- a message whose fields hold has a timeout of 32 bits
pub timeout_fits : (raw : RawRequest) → bad_field raw ≡ None → raw.timeout_seconds < 4294967296
unfolding bad_field
timeout_fits raw e =
    last_fits raw (
    past_eight (words_hold raw.words) (environment_holds raw.environment) (directory_holds raw.working_directory) (is_within 1 4 raw.strategy) (is_within 1 2 raw.kind)
    (paths_hold raw.inputs) (paths_hold raw.toolchain_inputs) (outputs_hold raw.working_directory raw.inputs raw.toolchain_inputs raw.outputs) (bad_last_field raw) e
    )

-- and has outputs that hold
pub outputs-hold : (raw : RawRequest) → bad_field raw ≡ None → outputs_hold raw.working_directory raw.inputs raw.toolchain_inputs raw.outputs ≡ true
unfolding bad_field
outputs-hold raw e =
    eighth_holds (words_hold raw.words) (environment_holds raw.environment) (directory_holds raw.working_directory) (is_within 1 4 raw.strategy) (is_within 1 2 raw.kind)
    (paths_hold raw.inputs) (paths_hold raw.toolchain_inputs) (outputs_hold raw.working_directory raw.inputs raw.toolchain_inputs raw.outputs) (bad_last_field raw) e
