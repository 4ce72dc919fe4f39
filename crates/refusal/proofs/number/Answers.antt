use mathlib.Core.Path.{sym, ap}
use Rattle.refusal.specs.Number.{number_of}
use Rattle.refusal.proofs.number.Goals as goal

pub returns-in-Frame : goal.returns-in-Frame
returns-in-Frame c = sym (ap number_of c.in-Frame.is)

pub returns-in-Buffer : goal.returns-in-Buffer
returns-in-Buffer c = sym (ap number_of c.in-Buffer.is)

pub returns-in-LogLength : goal.returns-in-LogLength
returns-in-LogLength c = sym (ap number_of c.in-LogLength.is)

pub returns-in-Closed : goal.returns-in-Closed
returns-in-Closed c = sym (ap number_of c.in-Closed.is)

pub returns-in-MessageType : goal.returns-in-MessageType
returns-in-MessageType c = sym (ap number_of c.in-MessageType.is)

pub returns-in-Body : goal.returns-in-Body
returns-in-Body c = sym (ap number_of c.in-Body.is)

pub returns-in-NoHello : goal.returns-in-NoHello
returns-in-NoHello c = sym (ap number_of c.in-NoHello.is)

pub returns-in-Hello : goal.returns-in-Hello
returns-in-Hello c = sym (ap number_of c.in-Hello.is)

pub returns-in-BlockType : goal.returns-in-BlockType
returns-in-BlockType c = sym (ap number_of c.in-BlockType.is)

pub returns-in-DataLength : goal.returns-in-DataLength
returns-in-DataLength c = sym (ap number_of c.in-DataLength.is)

pub returns-in-NotHeld : goal.returns-in-NotHeld
returns-in-NotHeld c = sym (ap number_of c.in-NotHeld.is)

pub returns-in-NotKnown : goal.returns-in-NotKnown
returns-in-NotKnown c = sym (ap number_of c.in-NotKnown.is)

pub returns-in-OverCount : goal.returns-in-OverCount
returns-in-OverCount c = sym (ap number_of c.in-OverCount.is)

pub returns-in-NoRoom : goal.returns-in-NoRoom
returns-in-NoRoom c = sym (ap number_of c.in-NoRoom.is)

pub returns-in-Clash : goal.returns-in-Clash
returns-in-Clash c = sym (ap number_of c.in-Clash.is)

pub returns-in-Entry : goal.returns-in-Entry
returns-in-Entry c = sym (ap number_of c.in-Entry.is)

pub returns-in-Offset : goal.returns-in-Offset
returns-in-Offset c = sym (ap number_of c.in-Offset.is)

pub returns-in-Pointers : goal.returns-in-Pointers
returns-in-Pointers c = sym (ap number_of c.in-Pointers.is)

pub returns-in-Page : goal.returns-in-Page
returns-in-Page c = sym (ap number_of c.in-Page.is)

pub returns-in-Nest : goal.returns-in-Nest
returns-in-Nest c = sym (ap number_of c.in-Nest.is)

pub returns-in-Spent : goal.returns-in-Spent
returns-in-Spent c = sym (ap number_of c.in-Spent.is)

pub returns-in-Pad : goal.returns-in-Pad
returns-in-Pad c = sym (ap number_of c.in-Pad.is)

pub returns-in-Allowance : goal.returns-in-Allowance
returns-in-Allowance c = sym (ap number_of c.in-Allowance.is)

pub returns-in-Date : goal.returns-in-Date
returns-in-Date c = sym (ap number_of c.in-Date.is)

pub returns-in-Card : goal.returns-in-Card
returns-in-Card c = sym (ap number_of c.in-Card.is)

pub returns-in-Query : goal.returns-in-Query
returns-in-Query c = sym (ap number_of c.in-Query.is)
