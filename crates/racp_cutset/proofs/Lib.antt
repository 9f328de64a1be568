mod Built
mod Fronts
mod Nodes
mod Packing
