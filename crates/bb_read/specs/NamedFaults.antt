-- What a fault of reading says of a text. No public contract cites this.
use Rattle.bb_read.specs.declared.fault.ReadFault.{ReadFault}
use Rattle.bb_read.specs.declared.fault.ReadFault.TheVariants as read
use Rattle.bb_read.specs.declared.refusal.TextRefusal.TheVariants as texts
use Rattle.bb_read.specs.declared.named_fault.NamedFault.{NamedFault}
use Rattle.bb_read.specs.declared.named_fault.NamedFault.TheVariants.{Read, Refused, NoMemory}

abbrev pub named_fault : ReadFault → NamedFault
named_fault read.Read = Read
named_fault read.TooLong = Refused texts.TooLong
named_fault (read.Lex fault) = Refused (texts.Lex fault)
named_fault (read.Parse fault) = Refused (texts.Parse fault)
named_fault (read.Elab fault) = Refused (texts.Elab fault)
named_fault read.NoMemory = NoMemory
