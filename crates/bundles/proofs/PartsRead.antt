-- Bytes read one part after another: the known bytes of the input go to the front of the buffer.
use Rattle.std.proofs.Common.{◌≡◌, ℕ, ◌+◌, ◌≤◌, List, ◌++◌, Option, Result, Ok, Err, length, take, sym, ◌∙◌, ap, arith, add-zero, length-take-le}
use Rattle.std.proofs.lemmas.List.{take-append-le}
use Rattle.std.proofs.Math.Seq.{take-append-add}
use Rattle.std.proofs.lemmas.Slice.{take-put_mid_below}
use Rattle.std.proofs.KnownBytes.{Consumes-trans, Consumes-kept}
use Rattle.std.specs.Io.{ReadsAtMost}
use Rattle.std.specs.Io.KnownBytes.{Consumes, ReadConsumes}
use Rattle.std.specs.Result.{result_unwrap_or}
use borrow.Rule.Slice.PartMut.{put_mid, post_of}

-- a read into the rest of the buffer gives so many bytes, and none where it fails
pub part_len : {E : Type 0} (part : List ℕ) (r : Result ℕ E) → ReadsAtMost r part → result_unwrap_or r 0 ≤ length part
part_len part (Ok n) b = b.0
part_len part (Err e) b = omega arith

pub part_read : {E : Type 0} (old mid new : Option (List ℕ)) (bytes part : List ℕ) (done k : ℕ) (r : Result ℕ E) → done ≤ length bytes
    → Consumes old mid (take done bytes) → ReadsAtMost r part → ReadConsumes mid new r part
    → Consumes old new (take (done + result_unwrap_or r 0) (put_mid done k bytes part))
part_read old mid new bytes part done k (Ok n) h p b q =
    let front = take done bytes in
    let rest = post_of done k bytes in
    let d : length front ≡ done = length-take-le done bytes h in
    let e : take (done + n) (put_mid done k bytes part) ≡ front ++ take n part =
    ap (λ i. take (i + n) (put_mid done k bytes part)) (sym d) ∙ take-append-add front (part ++ rest) n
    ∙ ap (λ l. front ++ l) (take-append-le n part rest b.0) in
    rw e (Consumes-trans old mid new front (take n part) p q.0)
part_read old mid new bytes part done k (Err e) h p b q =
    rw (add-zero, take-put_mid_below done k bytes part done (omega arith) h) (Consumes-kept old mid new (take done bytes) p q)
