-- Which file a name stands for.
use Rattle.std.specs.Prelude.{Bool, false, ◌&&◌, ◌==◌, Option, Some, None}
use Rattle.cli_io.specs.declared.identity.Identity.{Identity}

-- whether both are known, and are one file: an unknown file is the same as none
unfoldable pub is_same : Option Identity → Option Identity → Bool
is_same (Some a) (Some b) = a.device == b.device && a.number == b.number
is_same (Some a) None = false
is_same None b = false
