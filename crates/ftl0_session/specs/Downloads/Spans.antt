-- What the code's spans represent.
use Rattle.ftl0_session.specs.declared.downloads.span.Span.{Span}
use Rattle.ftl0_session.specs.Downloads.Table.{Due, stored}

-- what is due of the file
abbrev pub due_of : Span → Due
due_of span = stored span.number span.place span.last
