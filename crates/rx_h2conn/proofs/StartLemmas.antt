-- What holds of a new connection, and of every run from there.
use Rattle.std.proofs.Common.{◌≡◌, ◌+◌, ◌≤◌, ℕ, List, ◌++◌, ◌∷◌, [], length, Result, Ok, Err, IfOk, refl, arith}
use Rattle.rx_h2conn.specs.Session.{Reading}
use Rattle.rx_h2conn.specs.Emitted.{bytes_of}
use Rattle.rx_h2conn.specs.Conn.{started}
use Rattle.rx_h2conn.specs.Sound.{IsSound}
use Rattle.rx_h2conn.specs.Reader.{IsConn}
use Rattle.rx_h2conn.specs.History.{Call, run, bytewise, SameRuns, all_given, emitted, all_emitted}
use Rattle.rx_h2conn.specs.Parts.{part_of, all_parts}
use Rattle.rx_h2conn.specs.Carried.{bytes_on, all_written, bytes_in}
use Rattle.rx_h2conn.specs.Granted.{all_granted, window_left, AllSendHeld}
use Rattle.rx_h2conn.specs.Blocks.{WritesEachBlock}
use Rattle.rx_h2conn.specs.Heard.{Hears}
use Rattle.rx_h2conn.specs.Paced.{Restores, FitsNext}
use Rattle.rx_h2conn.proofs.BlockLemmas.{only_block}
use Rattle.rx_h2conn.proofs.HeardRunLemmas.{hears}
use Rattle.rx_h2conn.proofs.RestoreLemmas.{restores, fits_next}
use Rattle.rx_h2conn.proofs.CarriedLemmas.{all_carried}
use Rattle.rx_h2conn.proofs.GrantLemmas.{all_within}
use Rattle.rx_h2conn.proofs.LeftLemmas.{all_left}
use Rattle.rx_h2conn.proofs.HistoryLemmas.{any_runs}
use Rattle.rx_h2conn.proofs.EmittedLemmas.{all_added}
use Rattle.rx_h2conn.proofs.PartLemmas.{part_all}
use Rattle.rx_h2conn.proofs.PieceLemmas.{next_nothing, within}

pub sound_started : IsSound started.state
sound_started = record { connection = omega arith; stream = λ k. omega arith; count = omega arith }

pub conn_started : (r : Reading) → r ≡ started → IsConn r 9
conn_started r e = rw e (record { ready = λ _. record { fault = refl; lacks = next_nothing; sound = sound_started }; within = within started.state sound_started })

pub started_cutting : {E : Type 0} (r : Result Reading E) → IfOk r (λ conn. (a b : List Call) → bytewise a ≡ bytewise b → SameRuns conn a b)
started_cutting (Ok conn) = any_runs conn
started_cutting (Err e) = tt

pub started_output : {E : Type 0} (r : Result Reading E) → IfOk r (λ conn. (calls : List Call) → all_given conn calls ++ (run conn calls).state.queued ≡ conn.state.queued ++ bytes_of (all_emitted conn calls))
started_output (Ok conn) = all_added conn
started_output (Err e) = tt

pub started_streams : {E : Type 0} (r : Result Reading E) → IfOk r (λ conn. (id : ℕ) (calls : List Call) → part_of id (all_emitted conn calls) ≡ all_parts conn id calls)
started_streams (Ok conn) = part_all conn
started_streams (Err e) = tt

pub started_bytes : {E : Type 0} (r : Result Reading E) → IfOk r (λ conn. (id : ℕ) (calls : List Call) → bytes_on id (all_emitted conn calls) ≡ all_written conn id calls)
started_bytes (Ok conn) = all_carried conn
started_bytes (Err e) = tt

pub started_window : {E : Type 0} (r : Result Reading E) → IfOk r (λ conn. (calls : List Call) → length (bytes_in (all_emitted conn calls)) ≤ conn.state.send + all_granted conn 0 calls)
started_window (Ok conn) = λ calls. omega (arith, all_within conn calls)
started_window (Err e) = tt

pub started_stream_window : {E : Type 0} (r : Result Reading E) → IfOk r (λ conn. conn ≡ started) → IfOk r (λ conn. (id : ℕ) (calls : List Call) (last : Call) → AllSendHeld conn (calls ++ last ∷ []) → length (bytes_on id (emitted (run conn calls) last)) ≤ window_left conn id calls)
started_stream_window (Ok conn) new = λ id calls last held. all_left conn id calls last new held
started_stream_window (Err e) new = tt

pub started_hears : {E : Type 0} (r : Result Reading E) → IfOk r (λ conn. conn ≡ started) → IfOk r (λ conn. (calls : List Call) → Hears conn calls)
started_hears (Ok conn) new = λ calls. rw new (hears calls)
started_hears (Err e) new = tt

pub started_restores : {E : Type 0} (r : Result Reading E) → IfOk r (λ conn. conn ≡ started) → IfOk r (λ conn. (calls : List Call) → Restores conn calls)
started_restores (Ok conn) new = λ calls. rw new (restores calls)
started_restores (Err e) new = tt

pub started_fits : {E : Type 0} (r : Result Reading E) → IfOk r (λ conn. conn ≡ started) → IfOk r (λ conn. (calls : List Call) → FitsNext conn calls)
started_fits (Ok conn) new = λ calls. rw new (fits_next calls)
started_fits (Err e) new = tt

pub started_blocks : {E : Type 0} (r : Result Reading E) → IfOk r WritesEachBlock
started_blocks (Ok conn) = only_block conn
started_blocks (Err e) = tt
