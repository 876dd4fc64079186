use Rattle.std.proofs.Common.{◌≡◌, inl, refl, subst}
use Rattle.std.specs.Prelude.{Some}
use Rattle.survey_conf.specs.Faults.{fault_of, IsRefusedBy}
use Rattle.hips_mirror.proofs.LineLemmas.{not_described}
use Rattle.hips_mirror.proofs.description.describe_by.Goals as goal

pub returns-in-Err-Fault-clause-refused : goal.returns-in-Err-Fault-clause-refused
returns-in-Err-Fault-clause-refused g c =
    let wrong : fault_of c.args.text.now ≡ Some c.in-Err-Fault.fault = subst (IsRefusedBy (fault_of c.args.text.now)) c.in-Err-Fault.field-0-is c.in-Err-Fault.ensures.refused in
    inl (refl, not_described c.args.body.now c.args.text.now c.args.digits.now c.in-Err-Fault.fault c.requires wrong)
