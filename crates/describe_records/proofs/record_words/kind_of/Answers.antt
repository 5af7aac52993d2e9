-- `describe_records::record_words::kind_of` meets its contract.
use Rattle.describe_records.specs.Records.{kind_of}
use Rattle.describe_records.proofs.record_words.kind_of.Goals as goal

pub returns-in-Advance : goal.returns-in-Advance
unfolding kind_of
returns-in-Advance c = simp c.in-Advance.is

pub returns-in-Read : goal.returns-in-Read
unfolding kind_of
returns-in-Read c = simp c.in-Read.is

pub returns-in-Write : goal.returns-in-Write
unfolding kind_of
returns-in-Write c = simp c.in-Write.is

pub returns-in-Message : goal.returns-in-Message
unfolding kind_of
returns-in-Message c = simp c.in-Message.is

pub returns-in-LinkUp : goal.returns-in-LinkUp
unfolding kind_of
returns-in-LinkUp c = simp c.in-LinkUp.is

pub returns-in-LinkDown : goal.returns-in-LinkDown
unfolding kind_of
returns-in-LinkDown c = simp c.in-LinkDown.is

pub returns-in-ColdReset : goal.returns-in-ColdReset
unfolding kind_of
returns-in-ColdReset c = simp c.in-ColdReset.is

pub returns-in-ReadQueue : goal.returns-in-ReadQueue
unfolding kind_of
returns-in-ReadQueue c = simp c.in-ReadQueue.is

pub returns-in-RemoveOldest : goal.returns-in-RemoveOldest
unfolding kind_of
returns-in-RemoveOldest c = simp c.in-RemoveOldest.is

pub returns-in-ClearBits : goal.returns-in-ClearBits
unfolding kind_of
returns-in-ClearBits c = simp c.in-ClearBits.is

pub returns-in-Control : goal.returns-in-Control
unfolding kind_of
returns-in-Control c = simp c.in-Control.is

pub returns-in-HardwareSet : goal.returns-in-HardwareSet
unfolding kind_of
returns-in-HardwareSet c = simp c.in-HardwareSet.is

pub returns-in-ReadBits : goal.returns-in-ReadBits
unfolding kind_of
returns-in-ReadBits c = simp c.in-ReadBits.is

pub returns-in-NoKind : goal.returns-in-NoKind
unfolding kind_of
returns-in-NoKind c = simp c.in-NoKind.is
