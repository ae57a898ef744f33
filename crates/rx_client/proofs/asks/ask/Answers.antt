use Rattle.std.proofs.Common.{◌≡◌, Ok, Err, refl, sym, ap, subst, ◌∙◌}
use Rattle.std.proofs.lemmas.Result.{err_from_is_err_and}
use Rattle.rx_wrap.specs.Reading.{Words}
use Rattle.rx_wrap.specs.Words.{nothing_read, words_in}
use Rattle.rx_wrap.specs.declared.jobs.Job.{Job}
use Rattle.rx_wrap.specs.declared.usage_fault.UsageFault.{UsageFault}
use Rattle.rx_client.specs.Asking.{AreBytesOf, Asks, FindsJob, IsAsked, file_named, first_settings, usage_fault_of}
use Rattle.rx_client.specs.Invoked.{Invocation}
use Rattle.rx_client.proofs.AskLemmas.{asked_read, asked_refused, job_moved, words_refused}
use Rattle.rx_client.proofs.asks.ask.Goals as goal

pub returns-in_err-settings-clause-asks : goal.returns-in_err-settings-clause-asks
returns-in_err-settings-clause-asks g c =
    let p = err_from_is_err_and c.from_residual.result c.from_residual.ensures.1 in
    let inv : Invocation = record {
      words = c.invocation.inside.words.now;
      environment = c.invocation.inside.environment.now;
      directory = c.invocation.inside.directory.now;
    } in
    let held = g.G.Configs.held c.args.configs.now in
    let resolved = g.M.Machine.resolved c.args.machine.now in
    let fault : UsageFault = c.in_err-settings.field-0.0 in
    rw (p.1, p.2) (subst (λ (i : Invocation). Asks held resolved i (Err (usage_fault_of fault))) c.invocation.view_is
    (words_refused held resolved inv fault c.in_err-settings.ensures))

pub returns-in_err-job_by-clause-asks : goal.returns-in_err-job_by-clause-asks
returns-in_err-job_by-clause-asks g c =
    let p = err_from_is_err_and c.from_residual-in_err-job_by.result c.from_residual-in_err-job_by.ensures.1 in
    let inv : Invocation = record {
      words = c.invocation.inside.words.now;
      environment = c.invocation.inside.environment.now;
      directory = c.invocation.inside.directory.now;
    } in
    let held = g.G.Configs.held c.args.configs.now in
    let resolved = g.M.Machine.resolved c.args.machine.now in
    let read : Words = record { settings = c.settings.inside.settings.items; command = c.settings.inside.command.now } in
    let known : words_in nothing_read c.invocation.inside.words.now ≡ Ok read = c.in_ok-settings.ensures ∙ ap Ok (sym c.settings.view_is) in
    let named : c.file_named-named.result ≡ file_named (first_settings read.settings inv.environment) =
    c.file_named-named.ensures ∙ rw (c.in_ok-settings_in_environment.ensures, c.new.ensures.items) refl in
    let file : AreBytesOf held (file_named (first_settings read.settings inv.environment)) c.in_ok-bytes.bytes.items = rw named at c.in_ok-bytes.ensures.bytes in
    let fault : UsageFault = c.in_err-job_by.field-0.0 in
    let found : FindsJob resolved c.args.invocation.now
    (record { command_line = read.settings; environment = c.in_ok-settings_in_environment.field-0.items; file = c.new.result.items })
    read.command c.deref.result.now (Err fault) = c.in_err-job_by.ensures in
    let told = job_moved resolved _ inv read.settings _ _ _ _ read.command _ _ (Err fault) (sym c.invocation.view_is) c.in_ok-settings_in_environment.ensures c.new.ensures.items c.deref.ensures.value found in
    rw (p.1, p.2) (subst (λ (i : Invocation). Asks held resolved i (Err (usage_fault_of fault))) c.invocation.view_is
    (asked_refused held resolved inv c.in_ok-bytes.bytes.items read fault known file told))

pub returns-clause-asks : goal.returns-clause-asks
returns-clause-asks g c =
    let inv : Invocation = record {
      words = c.invocation.inside.words.now;
      environment = c.invocation.inside.environment.now;
      directory = c.invocation.inside.directory.now;
    } in
    let held = g.G.Configs.held c.args.configs.now in
    let resolved = g.M.Machine.resolved c.args.machine.now in
    let read : Words = record { settings = c.settings.inside.settings.items; command = c.settings.inside.command.now } in
    let known : words_in nothing_read c.invocation.inside.words.now ≡ Ok read = c.in_ok-settings.ensures ∙ ap Ok (sym c.settings.view_is) in
    let named : c.file_named-named.result ≡ file_named (first_settings read.settings inv.environment) =
    c.file_named-named.ensures ∙ rw (c.in_ok-settings_in_environment.ensures, c.new.ensures.items) refl in
    let file : AreBytesOf held (file_named (first_settings read.settings inv.environment)) c.in_ok-bytes.bytes.items = rw named at c.in_ok-bytes.ensures.bytes in
    let job : Job = c.in_ok-job_by.field-0 in
    let told = rw (c.deref.ensures.value, c.in_ok-settings_in_environment.ensures, c.new.ensures.items, ← c.invocation.view_is) at c.in_ok-job_by.ensures in
    subst (λ (i : Invocation). IsAsked held resolved i (Ok job)) c.invocation.view_is
    (asked_read held resolved inv c.in_ok-bytes.bytes.items read (Ok job) known file told)
