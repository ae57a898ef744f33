-- When a result of a command agrees with an outcome of it.
use Rattle.std.specs.Prelude.{◌≡◌, ◌≢◌, ℕ, List, [], Option, None, Some, All, IfSome}
use Rattle.rx_base.specs.Digests.{digest_of}
use Rattle.rx_base.specs.declared.digests.Digest.{Digest}
use Rattle.rx_messages.specs.declared.outputs.OutputFile.{OutputFile}
use Rattle.rx_messages.specs.declared.results.ActionResult.{ActionResult}
use Rattle.rx_world.specs.declared.commands.Command.{Command}
use Rattle.rx_world.specs.declared.outcomes.Outcome.{Outcome}
use Rattle.rx_world.specs.Files.{file_at}
use Rattle.rx_results.specs.declared.slots.Slot.{Slot}
use Rattle.rx_results.specs.Results.{counted, fault_of, file_for, stderr_slot, stdout_slot}
use Rattle.rx_results.specs.Slots.{wanted}

-- a digest that is named is the one of its blob
abbrev pub IsOwn : (Digest → List ℕ) → Option Digest → Type 0
IsOwn blob named = IfSome named (λ digest. digest_of (blob digest) ≡ digest)

-- the bytes that a slot stands for: those in the result, or else those of the blob
abbrev pub bytes_by : (Digest → List ℕ) → Option Digest → List ℕ → List ℕ
bytes_by blob None inline = inline
bytes_by blob (Some digest) inline = blob digest

-- the same of a slot, by the digest that has to be fetched for it
abbrev pub bytes_of : (Digest → List ℕ) → Slot → List ℕ
bytes_of blob slot = bytes_by blob (wanted slot) slot.inline

-- The result names a digest for this output. Its blob is what the outcome has there, with the mark,
-- and contents that are given are these bytes.
pub record AgreesAt (blob : Digest → List ℕ) (command : Command) (outcome : Outcome)
    (result : ActionResult) (output : List ℕ) : Type 0 where
  pub file : OutputFile
  pub digest : Digest
  pub there : file_for command result output ≡ Some file
  pub named : file.digest ≡ Some digest
  pub own : digest_of (blob digest) ≡ digest
  pub made : file_at output outcome.files ≡ Some (record {
    path = output;
    bytes = blob digest;
    executable = file.is_executable;
  })
  pub inline : file.contents ≢ [] → file.contents ≡ blob digest

-- The result has no fault, its code and its texts are the outcome's, each digest that it names for a
-- text is that of its blob, and it agrees at each output that counts.
pub record Agrees (blob : Digest → List ℕ) (command : Command) (outcome : Outcome)
    (result : ActionResult) : Type 0 where
  pub sound : fault_of command result ≡ None
  pub code_is : result.exit_code ≡ outcome.exit.code
  pub stdout_is : bytes_of blob (stdout_slot result) ≡ outcome.exit.stdout
  pub stderr_is : bytes_of blob (stderr_slot result) ≡ outcome.exit.stderr
  pub stdout_own : IsOwn blob result.stdout_digest
  pub stderr_own : IsOwn blob result.stderr_digest
  pub files : All (AgreesAt blob command outcome result) (counted command result)
