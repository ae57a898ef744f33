-- What is to be done, by the bytes of the file that is named, and the root as the system resolves its path.
use Rattle.std.proofs.Common.{◌≡◌, ◌≢◌, ℕ, List, [], Option, None, Result, Ok, Err, refl, subst}
use Rattle.rx_wrap.specs.Asking.{job_of}
use Rattle.rx_wrap.specs.Reading.{Words}
use Rattle.rx_wrap.specs.Settings.{Setting, Settings, setting_of}
use Rattle.rx_wrap.specs.Words.{nothing_read, words_in}
use Rattle.rx_wrap.specs.declared.flags.Flag.TheVariants.{ExecRoot as root_flag}
use Rattle.rx_wrap.specs.declared.jobs.Job.{Job}
use Rattle.rx_wrap.specs.declared.usage_fault.UsageFault.{UsageFault}
use Rattle.rx_wrap.specs.declared.usage_fault.UsageFault.TheVariants as usages
use Rattle.rx_client.specs.Asking.{AreBytesOf, Asks, FindsJob, IsAsked, IsJob, IsResolved, called_by, file_named, first_settings, job_with, settings_with, usage_fault_of}
use Rattle.rx_client.specs.Invoked.{Invocation}

-- ---- where the settings of words and environment are known

-- lines at fault ask for nothing, whatever the root is
pub settings_refused : (resolved : List ℕ → Option (Option (List ℕ))) (invocation : Invocation) (settings : Settings) (command : List (List ℕ)) (bytes : List ℕ) (fault : UsageFault)
    → (fault ≢ usages.NoMemory → settings_with settings bytes ≡ Err fault) → FindsJob resolved invocation settings command bytes (Err fault)
settings_refused resolved invocation settings command bytes (usages.Word word) h =
    let refused : settings_with settings bytes ≡ Err (usages.Word word) = h (λ e. absurd (cc e)) in
    record {
      root = None;
      root_is = rw refused tt;
      job_is = rw refused refl;
    }
settings_refused resolved invocation settings command bytes usages.NoMemory h = tt

job_known : (resolved : List ℕ → Option (Option (List ℕ))) (invocation : Invocation) (settings : Settings) (command : List (List ℕ)) (bytes : List ℕ) (all : Settings) (root : Option (List ℕ)) (job : Result Job UsageFault)
    → settings_with settings bytes ≡ Ok all → IsResolved resolved (setting_of root_flag all) root → job_of all (called_by invocation command root) ≡ job
    → IsJob resolved invocation settings command bytes job
job_known resolved invocation settings command bytes all root job known is job_is = record {
  root = root;
  root_is = rw known is;
  job_is = rw known job_is;
}

pub job_found : (resolved : List ℕ → Option (Option (List ℕ))) (invocation : Invocation) (settings : Settings) (command : List (List ℕ)) (bytes : List ℕ) (all : Settings) (root : Option (List ℕ)) (job : Job)
    → settings_with settings bytes ≡ Ok all → IsResolved resolved (setting_of root_flag all) root → job_of all (called_by invocation command root) ≡ Ok job
    → FindsJob resolved invocation settings command bytes (Ok job)
job_found resolved invocation settings command bytes all root job known is job_is =
    job_known resolved invocation settings command bytes all root (Ok job) known is job_is

pub job_refused : (resolved : List ℕ → Option (Option (List ℕ))) (invocation : Invocation) (settings : Settings) (command : List (List ℕ)) (bytes : List ℕ) (all : Settings) (root : Option (List ℕ)) (fault : UsageFault)
    → settings_with settings bytes ≡ Ok all → IsResolved resolved (setting_of root_flag all) root
    → (fault ≢ usages.NoMemory → job_of all (called_by invocation command root) ≡ Err fault) → FindsJob resolved invocation settings command bytes (Err fault)
job_refused resolved invocation settings command bytes all root (usages.Word word) known is h =
    job_known resolved invocation settings command bytes all root (Err (usages.Word word)) known is (h (λ e. absurd (cc e)))
job_refused resolved invocation settings command bytes all root usages.NoMemory known is h = tt

-- the same job, by the same values
pub job_moved : (resolved : List ℕ → Option (Option (List ℕ))) (invocation invocation' : Invocation) (first environment environment' file file' : List Setting) (command : List (List ℕ)) (bytes bytes' : List ℕ) (job : Result Job UsageFault)
    → invocation ≡ invocation' → environment ≡ environment' → file ≡ file' → bytes ≡ bytes'
    → FindsJob resolved invocation (record { command_line = first; environment = environment; file = file }) command bytes job
    → FindsJob resolved invocation' (record { command_line = first; environment = environment'; file = file' }) command bytes' job
job_moved resolved invocation invocation' first environment environment' file file' command bytes bytes' job a b c d h =
    let over_bytes = subst (λ (x : List ℕ). FindsJob resolved invocation (record { command_line = first; environment = environment; file = file }) command x job) d h in
    let over_file = subst (λ (x : List Setting). FindsJob resolved invocation (record { command_line = first; environment = environment; file = x }) command bytes' job) c over_bytes in
    let over_environment = subst (λ (x : List Setting). FindsJob resolved invocation (record { command_line = first; environment = x; file = file' }) command bytes' job) b over_file in
    subst (λ (x : Invocation). FindsJob resolved x (record { command_line = first; environment = environment'; file = file' }) command bytes' job) a over_environment

-- ---- by the words

-- words at fault ask for nothing, whatever the file holds
pub words_refused : (held : List ℕ → Option (List ℕ)) (resolved : List ℕ → Option (Option (List ℕ))) (invocation : Invocation) (fault : UsageFault)
    → (fault ≢ usages.NoMemory → words_in nothing_read invocation.words ≡ Err fault) → Asks held resolved invocation (Err (usage_fault_of fault))
unfolding job_with
words_refused held resolved invocation (usages.Word word) h =
    let refused : words_in nothing_read invocation.words ≡ Err (usages.Word word) = h (λ e. absurd (cc e)) in
    record {
      bytes = [];
      root = None;
      file = rw refused tt;
      root_is = rw refused tt;
      job_is = rw refused refl;
    }
words_refused held resolved invocation usages.NoMemory h = tt

-- what is to be done by words that were read, and the bytes of the file that they name
pub asked_read : (held : List ℕ → Option (List ℕ)) (resolved : List ℕ → Option (Option (List ℕ))) (invocation : Invocation) (bytes : List ℕ) (read : Words) (job : Result Job UsageFault)
    → words_in nothing_read invocation.words ≡ Ok read → AreBytesOf held (file_named (first_settings read.settings invocation.environment)) bytes
    → IsJob resolved invocation (first_settings read.settings invocation.environment) read.command bytes job → IsAsked held resolved invocation job
unfolding job_with
asked_read held resolved invocation bytes read job known file is = record {
  bytes = bytes;
  root = is.root;
  file = rw known file;
  root_is = rw known is.root_is;
  job_is = rw known is.job_is;
}

pub asked_refused : (held : List ℕ → Option (List ℕ)) (resolved : List ℕ → Option (Option (List ℕ))) (invocation : Invocation) (bytes : List ℕ) (read : Words) (fault : UsageFault)
    → words_in nothing_read invocation.words ≡ Ok read → AreBytesOf held (file_named (first_settings read.settings invocation.environment)) bytes
    → FindsJob resolved invocation (first_settings read.settings invocation.environment) read.command bytes (Err fault) → Asks held resolved invocation (Err (usage_fault_of fault))
asked_refused held resolved invocation bytes read (usages.Word word) known file h = asked_read held resolved invocation bytes read (Err (usages.Word word)) known file h
asked_refused held resolved invocation bytes read usages.NoMemory known file h = tt
