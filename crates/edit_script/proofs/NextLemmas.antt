-- From what was read of a command to what the reader answers.
use Rattle.std.proofs.Common.{◌≡◌, ◌+◌, ℕ, List, length, Option, Err, refl, arith}
use Rattle.edit_script.specs.declared.stop.Halt.{Halt}
use Rattle.edit_script.specs.declared.stop.Halt.TheVariants.{Bad, Cut, TooLong, Fault, Memory}
use Rattle.edit_script.specs.Command.{IsCommandText, IsTextOf}
use Rattle.edit_script.specs.Next.{Reader, IsAnswer, IsNext}
use Rattle.edit_script.specs.Reading.{IsAtEnd, IsHalt, Reads}
use Rattle.edit_script.specs.Stop.{script_stop_of}

halt_answer : (reader : Reader) (at_end : Type 0) (after : ℕ) (taken : List ℕ) (halt : Halt) → after + length taken ≡ reader.left → IsHalt (IsCommandText reader.grammar) at_end after taken halt → IsAnswer reader taken at_end (Err (script_stop_of reader.number halt))
halt_answer reader at_end after taken Bad counted is = (refl, is)
halt_answer reader at_end after taken Cut counted is = (refl, is.0, omega (arith, is.1, counted), is.2)
halt_answer reader at_end after taken TooLong counted is = (is.0, omega (arith, is.1, counted))
halt_answer reader at_end after taken Fault counted is = (is.0, omega (arith, is.1, counted))
halt_answer reader at_end after taken Memory counted is = is

pub halts_next : (before now : Option (List ℕ)) (reader after : Reader) (halt : Halt) → after.number ≡ reader.number → after.grammar ≡ reader.grammar → Reads (IsTextOf reader.grammar) (record { rest = before; allowance = reader.left }) (record { rest = now; allowance = after.left }) (Err halt) → IsNext before now reader after (Err (script_stop_of reader.number halt))
halts_next before now reader after halt number kept reads = record {
  taken = reads.0;
  from_front = reads.1.from_front;
  left = reads.1.counted;
  number = number;
  kept = kept;
  answer = halt_answer reader (IsAtEnd before now) after.left reads.0 halt reads.1.counted reads.2;
}
