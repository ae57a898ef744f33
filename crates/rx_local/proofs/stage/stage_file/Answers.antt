use Rattle.std.proofs.Common.{[], ◌∷◌, refl}
use Rattle.rx_local.proofs.Staging.{copy_of, read-cause, read_of, refused-one, staged-one}
use Rattle.rx_local.proofs.stage.stage_file.Goals as goal

pub returns-in-Err-clause-err : goal.returns-in-Err-clause-err
returns-in-Err-clause-err g c =
    let h = c.in-Err.ensures.err in
    rw c.cause_of_read.ensures
    (record { answers = h.answers; gives = h.gives; caused = read-cause c.args.file.now _ _ h.answers _ h.caused })

pub returns-in-Ok-put-clause-ok : goal.returns-in-Ok-put-clause-ok
returns-in-Ok-put-clause-ok g c = record {
  answers = read_of c.args.file.now c.in-Ok.bytes ∷ [];
  staged = copy_of c.args.file.now c.in-Ok.bytes ∷ [];
  gives = c.in-Ok.ensures.gives;
  each = staged-one c.args.file.now c.in-Ok.bytes c.in-Ok.ensures.digest;
  put = rw c.as_slice.ensures at c.in-Ok-put.ensures.put;
}

pub returns-clause-err : goal.returns-clause-err
returns-clause-err g c = record {
  answers = read_of c.args.file.now c.in-Ok.bytes ∷ [];
  gives = c.in-Ok.ensures.gives;
  caused = (refl, refused-one c.args.file.now c.in-Ok.bytes c.in-Ok.ensures.digest);
}
