-- Each plan has its writer; a part that stays is copied.
use Rattle.contraction.proofs.Contracta.{copying, copy_writes}
use Rattle.contraction.proofs.write.write.Goals as goal

pub copy-requires : goal.copy-requires
copy-requires c =
    let r = rw c.in-Copy.is at c.requires.0 in
    let q = copying r.plan_room r.wrote_is in
    (q.inside, q.room)

pub returns-in-Copy : goal.returns-in-Copy
returns-in-Copy c =
    let r = rw c.in-Copy.is at c.requires.0 in
    rw c.in-Copy.is (copy_writes r.plan_room r.wrote_is c.copy.auto.dst c.copy.ensures)
