-- The bytes of a frame that is sent.
use Rattle.std.specs.Prelude.{◌≡◌, ℕ, ◌/◌, ◌%◌, false, List, [], ◌∷◌, ◌++◌, length, Ok}
use Rattle.rx_h2frame.specs.declared.kind.Kind.{Kind}
use Rattle.rx_h2frame.specs.declared.write.FrameOut.{FrameOut}
use Rattle.rx_h2frame.specs.Kind.{kind_of, number_of}
use Rattle.rx_h2frame.specs.Head.{Header, is_padded_by, priority_size_by, is_wrong_size, is_wrong_stream}
use Rattle.rx_h2frame.specs.Frame.{Complete, next}

pub record Out : Type 0 where
  pub kind : Kind
  pub flags : ℕ
  pub stream : ℕ
  pub body : List ℕ

abbrev pub out_view : FrameOut → Out
out_view f = record { kind = f.kind; flags = f.flags; stream = f.stream; body = f.payload.now }

-- a number of 24 and one of 32 bits, the highest byte first
abbrev pub three : ℕ → List ℕ
three n = n / 65536 ∷ n / 256 % 256 ∷ n % 256 ∷ []

abbrev pub four : ℕ → List ℕ
four n = n / 16777216 ∷ n / 65536 % 256 ∷ n / 256 % 256 ∷ n % 256 ∷ []

-- RFC 9113 4.1
abbrev pub out_bytes : Out → List ℕ
out_bytes o = three (length o.body) ++ number_of o.kind ∷ o.flags ∷ [] ++ four o.stream ++ o.body

abbrev pub header_out : Out → Header
header_out o = record { size = length o.body; kind = o.kind; flags = o.flags; stream = o.stream }

-- the frame breaks no rule of a reader, and asks for neither padding nor priority
pub record IsProper (largest : ℕ) (o : Out) : Type 0 where
  pub kind : kind_of (number_of o.kind) ≡ o.kind
  pub size : is_wrong_size largest (header_out o) ≡ false
  pub stream : is_wrong_stream o.kind o.stream ≡ false
  pub padding : is_padded_by o.kind o.flags ≡ false
  pub priority : priority_size_by o.kind o.flags ≡ 0

abbrev pub ReadsBack : ℕ → Out → List ℕ → Type 0
ReadsBack largest o bytes =
    IsProper largest o → next largest bytes ≡ Ok (Complete (record { kind = o.kind; flags = o.flags; stream = o.stream; body = o.body; size = length o.body }))

-- the same of bytes that were written, whatever follows and whatever the largest payload is
abbrev pub IsReadBack : Out → List ℕ → Type 0
IsReadBack frame written = (largest : ℕ) (more : List ℕ) → ReadsBack largest frame (written ++ more)
