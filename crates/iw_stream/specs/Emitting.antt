-- The numbers of the next messages, as the code has them.
use Rattle.iw_queues.specs.Segments as segments
use Rattle.iw_stream.specs.declared.writing.Numbers.{Numbers}

abbrev pub numbers_of : Numbers → segments.Numbers
numbers_of numbers = record { send = numbers.send; read = numbers.read }
