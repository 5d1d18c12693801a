-- What the types of a record's fields say: numbers of 32 bits. Its sides have 64, and the rule bounds them.
use Rattle.std.specs.Prelude.{◌^◌, ◌<◌}
use Rattle.record.specs.declared.Record.{Record}

pub record Typed (r : Record) : Type 0 where
  pub shot : r.shot < 2 ^ 32
  pub sigma : r.sigma < 2 ^ 32
  pub b0 : r.b0 < 2 ^ 32
  pub b1 : r.b1 < 2 ^ 32
  pub b2 : r.b2 < 2 ^ 32
  pub b3 : r.b3 < 2 ^ 32
  pub rail : r.rail < 2 ^ 32
