-- `number_output::put_digits` meets its contract: one, two or three digits, laid one after the other.
use Rattle.files_spec.proofs.TextLaws.{numeral_one, numeral_two, numeral_three}
use Rattle.output_laws.proofs.PageLaws.{page-append}
use Rattle.number_output.proofs.put_digits.Goals as goal

pub returns-then-n-lt10 : goal.returns-then-n-lt10
returns-then-n-lt10 c = rw (numeral_one c.args.n c.if-n-lt10.true) c.put_digit.ensures

pub returns-then-n-lt100 : goal.returns-then-n-lt100
returns-then-n-lt100 c =
    rw (numeral_two c.args.n c.if-n-lt10.false c.if-n-lt100.true)
    (page-append c.put_digit-then-n-lt100.ensures c.put_digit-then-n-lt100-2.ensures)

pub returns : goal.returns
returns c =
    rw (numeral_three c.args.n c.if-n-lt100.false)
    (page-append (page-append c.put_digit-2.ensures c.put_digit-3.ensures) c.put_digit-4.ensures)
