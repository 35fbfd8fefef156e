-- What a reader answers of the faults of a text's tokens and of its grammar (this project's own).
use Rattle.bb_base.specs.declared.lex_fault.LexFault.{LexFault}
use Rattle.bb_base.specs.declared.lex_fault.LexFault.TheVariants as lexical
use Rattle.bb_parse.specs.declared.fault.ParseFault.{ParseFault}
use Rattle.bb_parse.specs.declared.fault.ParseFault.TheVariants as grammar
use Rattle.bb_read.specs.declared.fault.ReadFault.{ReadFault}
use Rattle.bb_read.specs.declared.fault.ReadFault.TheVariants.{Lex, Parse, NoMemory}

-- want of memory is one fault, whoever finds it
abbrev pub of_lex : LexFault → ReadFault
of_lex (lexical.BadByte line) = Lex (lexical.BadByte line)
of_lex (lexical.BadNumber line) = Lex (lexical.BadNumber line)
of_lex (lexical.LongName line) = Lex (lexical.LongName line)
of_lex (lexical.OpenComment line) = Lex (lexical.OpenComment line)
of_lex lexical.NoMemory = NoMemory

abbrev pub of_parse : ParseFault → ReadFault
of_parse (grammar.Unreadable line) = Parse (grammar.Unreadable line)
of_parse grammar.NoMemory = NoMemory
