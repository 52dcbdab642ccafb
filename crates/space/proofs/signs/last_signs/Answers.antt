-- `space::signs::last_signs` meets its contract: both ways to the signs give them. Assumes nothing.
use Rattle.exact.proofs.Holding.{small_holds}
use Rattle.space.proofs.signs.last_signs.Goals as goal

pub low_signs-requires : goal.low_signs-requires
low_signs-requires c =
    let small = c.requires c.if-narrow.true in
    let t = small.0 in
    let u = small.1 in
    let m-is = c.normal_at-m.ensures in
    let n-is = c.normal_at-n.ensures in (
      m-is,
      n-is,
      rw m-is (small_holds t.at_p t.at_q u.at_p u.at_p u.at_q),
      rw n-is (small_holds t.at_p t.at_r u.at_r u.at_r u.at_p),
    )
