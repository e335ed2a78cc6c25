-- The numbers that a drill is made from.
use Rattle.std.specs.Prelude.{ℕ, ◌≤◌}

-- how many messages and edits a drill may have, and the number that they are made from
pub record IsDrill (messages edits number : ℕ) : Type 0 where
  pub some : 1 ≤ messages
  pub few : messages ≤ 1000
  pub short : edits ≤ 1000
  pub small : number ≤ 999999999
