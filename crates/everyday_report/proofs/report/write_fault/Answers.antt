use Rattle.std.proofs.Common.{◌≡◌, ◌++◌, List, ℕ, Some, false, codes, refl, ap, subst}
use Rattle.std.specs.Prelude.{OnOk}
use Rattle.std.specs.Rc.{rc_slice_items}
use Rattle.user_compiling.specs.Faults.{ExtendedSourceFault, bad_user_defined, fault_seen}
use Rattle.everyday_report.specs.Report.{At, fault_line, said}
use Rattle.everyday_report.specs.Sentences as sentences
use Rattle.everyday_report.specs.Report.{place_seen}
use Rattle.everyday_report.proofs.report.write_fault.Goals as goal

-- the line of W5
said_of_bad : (place : At) (fault : ExtendedSourceFault) (block line : ℕ) (name text : List ℕ) → fault ≡ bad_user_defined block line name → text ≡ name
    → said place false (Some text) sentences.bad_user_defined (codes "W5 BadUserDefined") ≡ fault_line place fault
said_of_bad place fault block line name text is same = rw (is, same) refl

pub returns-in-BadUserDefined : goal.returns-in-BadUserDefined
returns-in-BadUserDefined c =
    let place = place_seen c.args.place in
    let fault = fault_seen c.args.fault.now in
    let name = rc_slice_items c.in-BadUserDefined.name in
    let same : said place false (Some c.as_slice.result.now) sentences.bad_user_defined (codes "W5 BadUserDefined") ≡ fault_line place fault =
    said_of_bad place fault _ _ name c.as_slice.result.now (ap fault_seen c.in-BadUserDefined.is) c.as_slice.ensures.value in
    subst (λ (line : List ℕ). OnOk c.write_said.result (c.write_said.new.out.items ≡ c.args.out.now.items ++ line)) same c.write_said.ensures
