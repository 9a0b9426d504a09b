mod Done
