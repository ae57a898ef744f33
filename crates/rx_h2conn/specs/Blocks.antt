-- The header block with which a stream was opened, as the output holds it (RFC 9113 4.3, 6.2, 6.10).
use Rattle.std.specs.Prelude.{◌≡◌, ℕ, Bool, true, false, ◌&&◌, List, ◌∷◌, ◌++◌, ◌==◌, None}
use Rattle.std.specs.List.{filter}
use Rattle.rx_hpack.specs.Header.{Field}
use Rattle.rx_h2frame.specs.declared.kind.Kind.{Kind}
use Rattle.rx_h2frame.specs.declared.kind.Kind.TheVariants.{Headers, Continuation}
use Rattle.rx_h2frame.specs.Write.{Out}
use Rattle.rx_h2conn.specs.Session.{Reading}
use Rattle.rx_h2conn.specs.Open.{refusal, next_id, header_block}
use Rattle.rx_h2conn.specs.History.{Call, Opens, run, all_emitted}
use Rattle.rx_h2conn.specs.Carried.{payload}

abbrev pub carries_block : Kind → Bool
carries_block Headers = true
carries_block Continuation = true
carries_block _ = false

-- what HEADERS and CONTINUATION of a stream hold, one after another
abbrev pub block_on : ℕ → List Out → List ℕ
block_on id os = payload (filter (λ o. carries_block o.kind && (o.stream == id)) os)

-- The call that opens a stream alone writes its header block, whatever calls stand before and after it.
abbrev pub IsOnlyBlock : Reading → List Call → List Field → Bool → List Call → Type 0
IsOnlyBlock conn before fields last later =
    refusal (run conn before).state ≡ None → block_on (next_id (run conn before).state) (all_emitted conn (before ++ Opens fields last ∷ later)) ≡ header_block (run conn before).state.size_update fields

abbrev pub WritesEachBlock : Reading → Type 0
WritesEachBlock conn = (before : List Call) (fields : List Field) (last : Bool) (later : List Call) → IsOnlyBlock conn before fields last later
