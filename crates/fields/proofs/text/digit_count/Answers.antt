use Rattle.std.proofs.Common.{◌^◌, ◌≤◌, arith, pow_mono}
use Rattle.fields.proofs.text.digit_count.Goals as goal

pub returns-clause-most : goal.returns-clause-most
returns-clause-most g c =
    let k : c.min.result ≤ 5 = omega arith in
    let h : 2 ^ c.min.result ≤ 32 = pow_mono k in
    omega arith
