-- `standard_input::read_full` meets its contract. A read that gave some bytes: they stand after those that were there,
-- and it took them from what the reads before had left.
use Rattle.std.proofs.Common.{◌≡◌, ℕ, ◌+◌, ◌-◌, ◌≤◌, List, ◌++◌, Some, None, Option, length, take, ap, sym, ◌∙◌, arith}
use Rattle.std.proofs.Common.{append_assoc}
use Rattle.std.proofs.Math.Seq.{take-append-add}
use Rattle.std.proofs.lemmas.List.{take-append-le, length-take-le}
use Rattle.std.specs.Io.KnownBytes.{Consumes}
use borrow.Rule.Slice.PartMut.{same_len_mid}
use Rattle.standard_input.proofs.read_full.Goals as goal

-- what was read stands after what was there
front_more : (xs ys rest : List ℕ) (a n : ℕ) → a ≤ length xs → n ≤ length ys
    → take (a + n) (take a xs ++ (ys ++ rest)) ≡ take a xs ++ take n ys
front_more xs ys rest a n within fits =
    ap (λ k. take (k + n) (take a xs ++ (ys ++ rest))) (sym (length-take-le a xs within))
    ∙ take-append-add (take a xs) (ys ++ rest) n
    ∙ ap (λ l. take a xs ++ l) (take-append-le n ys rest fits)

-- two reads, one after the other
read_more : (x y z : Option (List ℕ)) (bs cs : List ℕ) → Consumes x y bs → Consumes y z cs → Consumes x z (bs ++ cs)
read_more None y z bs cs p q = tt
read_more (Some x) None z bs cs p q = absurd p
read_more (Some x) (Some y) None bs cs p q = absurd q
read_more (Some x) (Some y) (Some z) bs cs p q = p ∙ ap (λ l. bs ++ l) q ∙ sym (append_assoc bs cs z)

pub loop-count-preserved : goal.loop-count-preserved
loop-count-preserved g c =
    let l = c.loop-count in
    let part = c.read.new.buf in
    let kept = same_len_mid l.count (length l.buffer - l.count) l.buffer part c.read.auto.buf in
    let took = c.in_ok-more.ensures.bytes.0 in
    let fits = c.in_ok-more.ensures.bound.0 in
    record {
      same_length = kept ∙ l.invariant.same_length;
      within = omega (arith, kept, fits, c.read.auto.buf);
      read = rw (front_more l.buffer part _ l.count c.in_ok-more.more l.invariant.within fits)
          (read_more _ _ _ _ _ l.invariant.read took);
    }
