-- A message of some bytes.
use Rattle.std.specs.Prelude.{◌≡◌, ℕ, Bool, true, List, Result, Ok, Err, if◌then◌else◌}
use Rattle.rx_base.specs.Results.{◌>>=◌}
use Rattle.rx_wire.specs.declared.faults.WireFault.{WireFault}
use Rattle.rx_wire.specs.Fields.{SpellsFields}
use Rattle.rx_wire.specs.Values.{Field}
use Rattle.rx_codec.specs.FieldBytes.{fields_in}
use Rattle.rx_codec.specs.Parts.{HasParts, Part, parts_checked}
use Rattle.rx_codec.specs.declared.faults.MessageFault.{MessageFault}
use Rattle.rx_codec.specs.declared.faults.MessageFault.TheVariants.{Wire, NotCanonical}

-- a refusal of the wire format is one of the message
abbrev pub on_wire : {A : Type 0} → Result A WireFault → Result A MessageFault
on_wire (Ok x) = Ok x
on_wire (Err fault) = Err (Wire fault)

-- a message that may be written in more than one form
abbrev pub any_form : {A : Type 0} → List ℕ → A → Bool
any_form bytes x = true

-- the message, if these bytes are its one form, where it has but one
abbrev pub formed : {A : Type 0} → (List ℕ → A → Bool) → List ℕ → Result A MessageFault → Result A MessageFault
formed is_canonical bytes message = do
  x ← message
  if is_canonical bytes x then Ok x else Err NotCanonical

-- First what the wire format refuses, by place. Then what the fields mean, by their numbers. Last, whether this is the one
-- form in which it may be written.
unfoldable pub decoded : {A : Type 0} → (ℕ → Part) → (List Field → Result A MessageFault) → (List ℕ → A → Bool) → List ℕ → Result A MessageFault
decoded parts from is_canonical bytes = do
  _ ← on_wire (parts_checked parts bytes 0)
  formed is_canonical bytes (from (fields_in bytes))

-- The bytes spell fields that are what their parts say, and these fields mean the message.
pub record Means {A : Type 0} (parts : ℕ → Part) (from : List Field → Result A MessageFault) (bytes : List ℕ) (x : A) : Type 0 where
  pub fields : List Field
  pub spelled : SpellsFields fields bytes
  pub each : HasParts parts fields
  pub is : from fields ≡ Ok x
