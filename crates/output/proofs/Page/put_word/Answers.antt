-- `output::Page::put_word` meets its contract. The invariant: the bytes from the index on remain.
use mathlib.Core.Path.{◌≡◌}
use mathlib.Core.List.{List, [], ◌∷◌, ◌++◌}
use Prim.Native.Nat.{ℕ, ◌+◌, ◌<◌}
use native.Mathlib.Numerals.{add-one}
use lib.ListN.{length, get_or, drop, drop_of_length-le}
use lib.Seq.{drop-cons}
use Rattle.output_laws.proofs.PageLaws.{page_all, page-done, page-rest}
use Rattle.output.proofs.Page.put_word.Goals as goal

-- the next byte
one_more : (word : List ℕ) (i : ℕ) → i < length word → drop i word ≡ (get_or word i 0 ∷ []) ++ drop (i + 1) word
one_more word i h = rw (add-one i) (drop-cons word i 0 h)

pub loop-byte-init : goal.loop-byte-init
loop-byte-init c = page_all _ _ _

pub loop-byte-preserved : goal.loop-byte-preserved
loop-byte-preserved c =
    let l = c.loop-byte in
    page-rest l.invariant _ _ (one_more c.args.word.now l.byte-index c.loop-byte-test.true) c.put.ensures

pub returns : goal.returns
returns c = page-done c.loop-byte.invariant (drop_of_length-le c.args.word.now c.loop-byte-test.false)
