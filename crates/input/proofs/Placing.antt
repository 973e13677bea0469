-- A block that is filled by one read after the other. Assumes nothing.
use Rattle.std.proofs.Common.{◌≡◌, ℕ, ◌+◌, ◌≤◌, List, ◌++◌, length, take, sym, ap, ◌∙◌}
use Rattle.std.proofs.Math.Seq.{take-append-add}
use Rattle.std.proofs.lemmas.List.{length-take-le, take-append-le}
use borrow.Rule.Slice.PartMut.{post_of, put_mid}

-- what a read puts after the first bytes
pub filled : (at room count : ℕ) (block read : List ℕ) → at ≤ length block → count ≤ length read →
    take (at + count) (put_mid at room block read) ≡ take at block ++ take count read
filled at room count block read within fits =
    let after : List ℕ = post_of at room block in
    ap (λ n. take (n + count) (put_mid at room block read)) (sym (length-take-le at block within))
    ∙ take-append-add (take at block) (read ++ after) count
    ∙ ap (λ bytes. take at block ++ bytes) (take-append-le count read after fits)
