mod LinesLemmas
mod TableLemmas
mod ValuesLemmas
mod WorkedTables
