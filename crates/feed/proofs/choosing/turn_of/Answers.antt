-- `feed::choosing::turn_of` meets its contract.
use mathlib.Core.Path.{sym, subst}
use Rattle.records.specs.declared.Record.{Record}
use Rattle.feed.specs.inner.Turns.{Takes}
use Rattle.feed.proofs.choosing.turn_of.Goals as goal

pub returns-in-Advance : goal.returns-in-Advance
returns-in-Advance c = let a = c.args in subst (λ (x : Record). Takes a.slots a.earliest a.dev.clock a.dev.link x c.of_advance.result) (sym c.in-Advance.is) (c.of_advance.ensures a.slots a.dev.link)

pub returns-in-Read : goal.returns-in-Read
returns-in-Read c = let a = c.args in subst (λ (x : Record). Takes a.slots a.earliest a.dev.clock a.dev.link x c.of_read.result) (sym c.in-Read.is) (c.of_read.ensures a.earliest a.dev.clock a.dev.link)

pub returns-in-Write : goal.returns-in-Write
returns-in-Write c = let a = c.args in subst (λ (x : Record). Takes a.slots a.earliest a.dev.clock a.dev.link x c.of_write.result) (sym c.in-Write.is) (c.of_write.ensures a.earliest a.dev.clock a.dev.link)

pub returns-in-HardwareSet : goal.returns-in-HardwareSet
returns-in-HardwareSet c = let a = c.args in subst (λ (x : Record). Takes a.slots a.earliest a.dev.clock a.dev.link x c.of_hardware.result) (sym c.in-HardwareSet.is) (c.of_hardware.ensures a.earliest a.dev.clock a.dev.link)

pub returns-in-Message : goal.returns-in-Message
returns-in-Message c = let a = c.args in subst (λ (x : Record). Takes a.slots a.earliest a.dev.clock a.dev.link x c.of_message.result) (sym c.in-Message.is) (c.of_message.ensures a.slots a.earliest a.dev.clock)
