-- The blank port state (01, "Set-up, and memory lent").
use Rattle.std.specs.Prelude.{false, replicate}
use Rattle.readiness.specs.Blank.{blank_dev}
use Rattle.records.specs.declared.Port.{Port}

-- nothing carried or broken
abbrev pub blank_port : Port
blank_port = record { dev = blank_dev; carried = replicate 16 0; carried_len = 0; broken = false }
