use Rattle.std.proofs.Common.{map}
use Rattle.td_cli.proofs.Ending.{carries_asked, shows}
use Rattle.td_cli.proofs.shell.run_plain.Goals as goal

pub returns-in-Ok-request_of : goal.returns-in-Ok-request_of
returns-in-Ok-request_of g c = record {
  ends = carries_asked (g.F.Files.disk c.args.files.now) (map g.S.AsStr.text c.args.words.now) c.in-Ok.words c.in-Ok-request_of.request _ _ _
      c.in-Ok.ensures.parted c.in-Ok-request_of.ensures.asked (rw c.in-Ok-request_of.ensures.untouched.0 at c.carry_out_plain.ensures);
  untouched = tt;
}

pub returns-clause-ends : goal.returns-clause-ends
returns-clause-ends g c =
    shows (g.F.Files.disk c.args.files.now) (map g.S.AsStr.text c.args.words.now) c.in-Ok.words _ _ _
    c.in-Ok.ensures.parted c.in-Err-request_of.ensures.ends
