mod Chains
mod Entries
mod LeadingOperands
mod NegatedLocals
mod PlacesBehind
mod PreparedParts
