-- What stands at a path of genuine entries.
use Rattle.std.proofs.Common.{◌≡◌, ℕ, Bool, true, false, cond, List, [], ◌∷◌, ◌++◌, Result, Ok, Err, IfOk, bytes_eq, refl}
use Rattle.std.proofs.lemmas.List.Elements.{All-from_recursion}
use Rattle.std.specs.List.{AllByRecursion}
use Rattle.rx_fakes.specs.Entries.{AreGenuine, IsGenuine}
use Rattle.rx_world.proofs.FilesUnder.{entry_at-path}
use Rattle.rx_world.specs.declared.looks.Look.{Look}
use Rattle.rx_world.specs.declared.looks.Stamp.{Stamp}
use Rattle.rx_world.specs.declared.sources.SourceEntry.{SourceEntry}
use Rattle.rx_world.specs.Sources.{GivesContent, HasBytes, HoldContent, IsRead, entry_at}

chosen_is : (P : SourceEntry → Type 0) (b : Bool) (x y : SourceEntry) → P x → P y → P (cond b x y)
chosen_is P true x y p q = p
chosen_is P false x y p q = q

genuine-entry_at : (honest : Type 0) (holds : List ℕ → Stamp → List ℕ) (path : List ℕ) (entries : List SourceEntry) → AreGenuine honest holds entries → IsGenuine honest holds (entry_at path entries)
genuine-entry_at honest holds path [] all = record { bytes = refl; content = λ h. tt }
genuine-entry_at honest holds path (entry ∷ entries) all =
    chosen_is (IsGenuine honest holds) (bytes_eq entry.path path) entry (entry_at path entries) all.0 (genuine-entry_at honest holds path entries all.1)

pub read_bytes : {E : Type 0} (honest : Type 0) (holds : List ℕ → Stamp → List ℕ) (path : List ℕ) (entries : List SourceEntry) (result : Result (Look × List ℕ) E) → AreGenuine honest holds entries → IfOk result (λ read. IsRead entries path read.0 read.1) → IfOk result (λ read. HasBytes read.0 read.1)
read_bytes honest holds path entries (Ok read) all is = rw (is.look_is, is.bytes_are) (genuine-entry_at honest holds path entries all).bytes
read_bytes honest holds path entries (Err e) all is = tt

pub read_content : {E : Type 0} (honest : Type 0) (holds : List ℕ → Stamp → List ℕ) (path : List ℕ) (entries : List SourceEntry) (result : Result (Look × List ℕ) E) → AreGenuine honest holds entries → IfOk result (λ read. IsRead entries path read.0 read.1) → IfOk result (λ read. honest → GivesContent holds path read.0 read.1)
read_content honest holds path entries (Ok read) all is = λ h.
    let content : GivesContent holds (entry_at path entries).path (entry_at path entries).look (entry_at path entries).bytes = (genuine-entry_at honest holds path entries all).content h in
    rw (is.look_is, is.bytes_are) (rw (entry_at-path path entries) at content)
read_content honest holds path entries (Err e) all is = tt

contents_of : (honest : Type 0) (holds : List ℕ → Stamp → List ℕ) (entries : List SourceEntry) → AreGenuine honest holds entries → honest → AllByRecursion (λ entry. GivesContent holds entry.path entry.look entry.bytes) entries
contents_of honest holds [] all h = tt
contents_of honest holds (entry ∷ entries) all h = (all.0.content h, contents_of honest holds entries all.1 h)

-- genuine entries hold what the world has
pub genuine-holds : (honest : Type 0) (holds : List ℕ → Stamp → List ℕ) (entries : List SourceEntry) → AreGenuine honest holds entries → honest → HoldContent holds entries
genuine-holds honest holds entries all h = All-from_recursion _ entries (contents_of honest holds entries all h)
