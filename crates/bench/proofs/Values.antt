-- The machine values of a port and of a set-up, each by a name that stays shut: a walk's context holds the name and not the fields.
use mathlib.Core.List.{List, [], ◌∷◌}
use mir.Val.{Val}
use denote.Laws.{Is, Tells}
use denote.Struct.Laws as LL
use Rattle.readiness.specs.declared.Setup.{Setup}
use Rattle.readiness.specs.contracts.Setup as S
use Rattle.readiness.proofs.Setup.TheLaws as S'
use Rattle.records.specs.declared.Port.{Port}
use Rattle.records.specs.contracts.Port as P
use Rattle.records.proofs.Port.TheLaws as P'

unfoldable pub port_val : Port → Val
port_val p = LL.val P.the_type P'.the_laws p

unfoldable pub setup_val : Setup → Val
setup_val s = LL.val S.the_type S'.the_laws s

abbrev pub port_vals : Port → List Val
port_vals p = port_val p ∷ []

abbrev pub setup_vals : Setup → List Val
setup_vals s = setup_val s ∷ []

pub port_tells : Tells P.the_row (Is P.the_row) port_vals
unfolding port_val
port_tells = LL.tells P.the_type P'.the_laws

pub setup-tells : Tells S.the_row (Is S.the_row) setup_vals
unfolding setup_val
setup-tells = LL.tells S.the_type S'.the_laws
