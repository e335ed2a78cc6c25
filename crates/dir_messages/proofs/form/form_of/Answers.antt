use Rattle.std.proofs.Common.{sym}
use Rattle.std.specs.Str.Parse.{digits_value}
use Rattle.dir_messages.proofs.CountLemmas.{IsNumber-read}
use Rattle.dir_messages.proofs.form.form_of.Goals as goal

pub returns-in-Some : goal.returns-in-Some
returns-in-Some c =
    let number = c.in-Some.number.now in
    (digits_value 10 number, sym c.in-Some.ensures.number, IsNumber-read number c.read_decimal.result c.in-Some.ensures.plain c.read_decimal.ensures)
